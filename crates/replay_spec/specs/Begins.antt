-- The tables of replay once a phase begins, from which the phases' frontier tasks are walked. Phase m begins with step s, which
-- is stolen from phase k.
use Rattle.std.specs.Prelude.{ℕ, ◌+◌, List, get_or, set}

-- For each phase a step of its frontier task: that of the new phase is its first step. That of the robbed phase is now the
-- first step of the child whose end stands just before s, which follows the opener of s.
unfoldable pub bases_begun : List ℕ → List ℕ → ℕ → ℕ → ℕ → List ℕ
bases_begun openers bases k m s = set (set bases k (get_or openers s 0 + 1)) m s

-- That step's ordinal: `own` is that of s.
unfoldable pub ordinals_begun : List ℕ → ℕ → ℕ → ℕ → List ℕ
ordinals_begun ordinals k m own = set (set ordinals k 0) m own
