-- Document 02, #104: what a step waits for, as one theorem, closed by computation.
use Rattle.std.specs.Prelude.{ℕ, ◌≡◌, refl, length, replicate}
use mathlib.Core.List.{List, [], ◌∷◌, ◌++◌, map, flatten}
use Rattle.std.proofs.Math.Option.{Option, none, some}
use Rattle.rules.specs.Bytes.{records, count, find, highest}
use Rattle.rules.specs.Tree.{kinds}
use Rattle.rules.specs.Scheduling.{work_first, help_first, most_workers, awaited}
use Rattle.rules.specs.Calls.{record_walk}
use Rattle.rules.specs.Cases.{answer, bytes, of_kinds, S, seven, one_end}
use Rattle.rules.specs.NearMisses.{inside}

-- Two finish children, one in the other; and a finish child, an async child and a finish child one behind the other.
unfoldable nested : List ℕ
nested = of_kinds (2 ∷ 2 ∷ 3 ∷ 3 ∷ 3 ∷ [])

unfoldable three : List ℕ
three = of_kinds (2 ∷ 3 ∷ 1 ∷ 3 ∷ 2 ∷ 3 ∷ 3 ∷ [])

-- Policy, tree and events, and for each step what it waits for then.
record Row : Type 0 where
  policy : ℕ
  tree : List ℕ
  events : List ℕ
  says : List (Option ℕ)

unfoldable row : ℕ → List ℕ → List ℕ → List (Option ℕ) → Row
row p tree events says = record { policy = p; tree = tree; events = events; says = says }

-- Of S only step 6 follows a finish child, which has steps 3 to 5: what it waits for.
unfoldable of_s : ℕ → List ℕ → Option ℕ → Row
of_s p events six = row p S events (replicate 6 none ++ (six ∷ []))

unfoldable rows : List Row
rows =
    -- nothing has run
    of_s work_first [] (some 5)
    -- worker 2 holds 6: 0 2 3 have run, then 4, then 5
    ∷ of_s work_first (bytes 10 0x0000_0100_0101_0201_0101) (some 5)
    ∷ of_s work_first (bytes 12 0x0000_0100_0101_0201_0101_0101) (some 5)
    ∷ of_s work_first (bytes 14 0x0000_0100_0101_0201_0101_0101_0101) none
    -- P1: 5 has run, the child's end, and 4 has not; then 4 has too
    ∷ of_s work_first (seven ++ bytes 2 0x0000) (some 4)
    ∷ of_s work_first (seven ++ bytes 4 0x0000_0101) none
    -- P2: 4 has run and 5 has not
    ∷ of_s work_first (seven ++ bytes 2 0x0101) (some 5)
    -- worker 2 holds 6 and worker 3 holds 4: 0 2 3 5 have run
    ∷ of_s help_first (bytes 14 0x0000_0000_0000_0100_0200_0300_0000) (some 4)
    -- 0 and 1 have run: the inner child is step 2 alone
    ∷ row work_first nested (bytes 6 0x0000_0100_0000) (none ∷ none ∷ none ∷ some 2 ∷ some 3 ∷ [])
    -- 0 1 3 5 have run and 2 and 4 have not: the higher of the two
    ∷ row help_first inside (bytes 12 0x0000_0000_0100_0000_0200_0000) (replicate 6 none ++ (some 4 ∷ []))
    -- a step waits for the finish child just before it, not for an async child and not for one further back
    ∷ row work_first three [] (none ∷ none ∷ some 1 ∷ none ∷ none ∷ none ∷ some 5 ∷ [])
    ∷ row work_first one_end [] (none ∷ [])
    ∷ []

-- What the rules say of each step.
unfoldable said : Row → List (Option ℕ)
said r =
    let ks = kinds r.tree in
    map (awaited ks (record_walk most_workers r.policy ks (records 2 r.events)).state.log) (count 0 (length ks))

awaited_as_stated : map said rows ≡ map (λ r. r.says) rows
unfolding answer said rows row of_s awaited highest find bytes of_kinds S seven nested three inside one_end flatten
awaited_as_stated = refl
