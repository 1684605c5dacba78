-- A run by cases, in the terms of the code: its refusals in the order in which they are judged, what it needs where it is not
-- refused, and what it leaves, by the kind of its step.
use Rattle.std.specs.Prelude.{ℕ, ◌≤◌, ◌<◌, ◌≡◌, true, false, List, length, get_or, set}
use Rattle.std.proofs.Math.Path.{refl}
use Rattle.std.proofs.Math.Option.{none, some}
use Rattle.std.proofs.Math.Decide.{dec_le, dec_lt}
use Rattle.std.proofs.Common.{arith}
use borrow.Author.Tests.{ne_eqb, lt-ltb, le-ltb, le-leb, lt-leb}
use Rattle.rules.specs.Tree.{kind_at, is_end}
use Rattle.rules.specs.Scheduling.{holds, pushes}
use Rattle.policy.specs.Contract.{worker_limit}
use Rattle.policy.proofs.Laws.Workers.{far_eight}
use Rattle.run_spec.specs.Deques.{newest_mark, popped}
use Rattle.run_spec.specs.Running.{no_step, waits_for, run_number, held_next, place_next}

-- ---- refusals

module _ (c : ℕ) (ks place held : List ℕ) (w : ℕ) where
  pub judged-worker : worker_limit c ≤ w → 8 ≡ run_number c ks place held w
  unfolding run_number
  judged-worker h = far_eight _ _ (le-leb (worker_limit c) w h)

  module _ (few : w < worker_limit c) where
    pub judged-long : 4095 < length ks → 2 ≡ run_number c ks place held w
    unfolding run_number
    judged-long h = rw (lt-leb (worker_limit c) w few, lt-ltb 4095 (length ks) h) refl

    module _ (most : length ks ≤ 4095) (i : ℕ) (holding : i ≡ get_or held w 0) where
      pub judged-idle : length ks ≤ i → 9 ≡ run_number c ks place held w
      unfolding run_number
      judged-idle h = rw (lt-leb (worker_limit c) w few, le-ltb 4095 (length ks) most, ← holding, le-leb (length ks) i h) refl

      pub judged-waits : i < length ks → waits_for ks place i ≡ true → 10 ≡ run_number c ks place held w
      unfolding run_number
      judged-waits within h =
          rw (lt-leb (worker_limit c) w few, le-ltb 4095 (length ks) most, ← holding, lt-leb (length ks) i within, h) refl

      pub judged-runs : i < length ks → waits_for ks place i ≡ false → 0 ≡ run_number c ks place held w
      unfolding run_number
      judged-runs within h =
          rw (lt-leb (worker_limit c) w few, le-ltb 4095 (length ks) most, ← holding, lt-leb (length ks) i within, h) refl

  -- A run that is not refused is by one of the workers, of a step of the tree.
  pub run_allowed : 0 ≡ run_number c ks place held w → (w < worker_limit c) × (length ks ≤ 4095) × (get_or held w 0 < length ks)
  run_allowed none-refused =
      elim (dec_lt w (worker_limit c)) [
        | no far ↦ let e = judged-worker (omega arith) in absurd (omega (arith, e))
        | yes few ↦ elim (dec_le (length ks) 4095) [
          | no long ↦ let e = judged-long few (omega arith) in absurd (omega (arith, e))
          | yes most ↦ elim (dec_lt (get_or held w 0) (length ks)) [
            | no idle ↦ let e = judged-idle few most (get_or held w 0) refl (omega arith) in absurd (omega (arith, e))
            | yes within ↦ (few, most, within)
          ]
        ]
      ]

-- ---- what a run leaves

module _ (p : ℕ) (ks place : List ℕ) (w low i : ℕ) where
  -- Step i opens a task,
  module _ (n : kind_at ks i ≡ 3 → ⊥) where
    pub next-opens : (next : ℕ) → next ≡ holds p ks i → next ≡ held_next p ks place w low i
    unfolding is_end held_next
    next-opens next e = rw (ne_eqb (kind_at ks i) 3 n) e

    pub place-opens : set place i w ≡ place_next ks place w low i
    unfolding is_end place_next
    place-opens = rw (ne_eqb (kind_at ks i) 3 n) refl

  -- or ends one, over a deque with a newest step or an empty one.
  module _ (end : kind_at ks i ≡ 3) where
    next-newest : held_next p ks place w low i ≡ elim (newest_mark place w low i) [ none ↦ no_step | some q ↦ pushes p ks q ]
    unfolding is_end held_next
    next-newest = rw end refl

    pub next-pops : (q : ℕ) → newest_mark place w low i ≡ some q → (next : ℕ) → next ≡ pushes p ks q
        → next ≡ held_next p ks place w low i
    next-pops q found next e = rw (next-newest, found) e

    pub next-ends : newest_mark place w low i ≡ none → 65535 ≡ held_next p ks place w low i
    next-ends found = rw (next-newest, found) refl

    pub place-ends : (after : List ℕ) → after ≡ popped place w low i → after ≡ place_next ks place w low i
    unfolding is_end place_next
    place-ends after e = rw end e
