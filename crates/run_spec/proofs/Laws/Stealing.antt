-- A steal by cases, in the terms of the code: its refusals in the order in which they are judged, what it needs where it is not
-- refused, and what it takes, by what is found in the deque.
use Rattle.std.specs.Prelude.{Some, None}
use Rattle.run_spec.specs.Stealing.{MaybeStolen}
use Rattle.std.specs.Prelude.{ℕ, ◌≤◌, ◌<◌, cond, List, length, get_or, ltb}
use Rattle.std.proofs.Math.Path.{◌≡◌, refl, sym, ap}
use Rattle.std.proofs.Common.{◌∙◌, arith}
use Rattle.std.proofs.Math.Option.{Option, none, some}
use Rattle.std.proofs.Math.Decide.{dec_le, dec_lt}
use borrow.Author.Tests.{lt-ltb, le-ltb, le-leb, lt-leb}
use Rattle.rules.specs.Scheduling.{pushes}
use Rattle.policy.specs.Contract.{worker_limit}
use Rattle.policy.proofs.Laws.Workers.{first_far, second_far, far_eight}
use Rattle.run_spec.specs.Ordinals.{ordinal_from}
use Rattle.run_spec.specs.declared.Stolen.{Stolen}
use Rattle.run_spec.specs.Stealing.{steal_number, taken_of}

-- ---- refusals

module _ (c : ℕ) (ks held : List ℕ) (t v : ℕ) where
  pub judged-thief : worker_limit c ≤ t → 8 ≡ steal_number c ks held t v
  unfolding steal_number
  judged-thief h = far_eight _ _ (first_far c t v (le-leb (worker_limit c) t h))

  pub judged-victim : worker_limit c ≤ v → 8 ≡ steal_number c ks held t v
  unfolding steal_number
  judged-victim h = far_eight _ _ (second_far c t v (le-leb (worker_limit c) v h))

  module _ (few : t < worker_limit c) (fewer : v < worker_limit c) where
    pub judged-long : 4095 < length ks → 2 ≡ steal_number c ks held t v
    unfolding steal_number
    judged-long h = rw (lt-leb (worker_limit c) t few, lt-leb (worker_limit c) v fewer, lt-ltb 4095 (length ks) h) refl

    module _ (most : length ks ≤ 4095) (i : ℕ) (holding : i ≡ get_or held t 0) where
      -- What is left is whether the thief holds a step of the tree.
      thief-asked : steal_number c ks held t v ≡ cond (ltb (get_or held t 0) (length ks)) 11 0
      unfolding steal_number
      thief-asked = rw (lt-leb (worker_limit c) t few, lt-leb (worker_limit c) v fewer, le-ltb 4095 (length ks) most) refl

      pub judged-busy : i < length ks → 11 ≡ steal_number c ks held t v
      judged-busy h = rw (thief-asked, ← holding, lt-ltb i (length ks) h) refl

      pub judged-idle : length ks ≤ i → 0 ≡ steal_number c ks held t v
      judged-idle h = rw (thief-asked, ← holding, le-ltb i (length ks) h) refl

  -- A steal that is not refused is between two of the workers, in a tree that is not too long.
  pub steal_allowed : 0 ≡ steal_number c ks held t v → (t < worker_limit c) × (v < worker_limit c) × (length ks ≤ 4095)
  steal_allowed none-refused =
      elim (dec_lt t (worker_limit c)) [
        | no far ↦ let e = judged-thief (omega arith) in absurd (omega (arith, e))
        | yes few ↦ elim (dec_lt v (worker_limit c)) [
          | no far ↦ let e = judged-victim (omega arith) in absurd (omega (arith, e))
          | yes fewer ↦ elim (dec_le (length ks) 4095) [
            | no long ↦ let e = judged-long few fewer (omega arith) in absurd (omega (arith, e))
            | yes most ↦ (few, fewer, most)
          ]
        ]
      ]

-- ---- what is taken

-- A step that is taken, and x where none is.
stolen-by : Stolen → MaybeStolen → Stolen
stolen-by x (Some y) = y
stolen-by x None = x

module _ (p : ℕ) (ks : List ℕ) (base from : ℕ) where
  pub takes_nothing : (o : Option ℕ) → o ≡ none → None ≡ taken_of p ks base from o
  unfolding taken_of
  takes_nothing o e = rw e refl

  pub takes_step : (o : Option ℕ) (x : Stolen) → o ≡ some x.pusher.0 → x.step.0 ≡ pushes p ks x.pusher.0
      → x.ordinal.0 ≡ ordinal_from p ks base from x.pusher.0 → Some x ≡ taken_of p ks base from o
  unfolding taken_of
  takes_step o x e f g = rw (e, ← f, ← g) refl

  -- What was found in the deque, by what was taken.
  pub took-nothing : (o : Option ℕ) → taken_of p ks base from o ≡ None → o ≡ none
  unfolding taken_of
  took-nothing none e = refl
  took-nothing (some q) e = let z : ◌≡◌ {A = ℕ} 0 1 = cc in absurd (omega arith)

  pub took-step : (o : Option ℕ) (x : Stolen) → taken_of p ks base from o ≡ Some x
      → (o ≡ some x.pusher.0) × (x.step.0 ≡ pushes p ks x.pusher.0) × (x.ordinal.0 ≡ ordinal_from p ks base from x.pusher.0)
  unfolding taken_of stolen-by
  took-step none x e = let z : ◌≡◌ {A = ℕ} 0 1 = cc in absurd (omega arith)
  took-step (some q) x e =
      let same = ap (stolen-by x) e in
      let pusher : q ≡ x.pusher.0 = ap (λ (s : Stolen). s.pusher.0) same in
      let step : pushes p ks q ≡ x.step.0 = ap (λ (s : Stolen). s.step.0) same in
      let ordinal : ordinal_from p ks base from q ≡ x.ordinal.0 = ap (λ (s : Stolen). s.ordinal.0) same in
      (ap some pusher, sym step ∙ ap (pushes p ks) pusher, sym ordinal ∙ ap (ordinal_from p ks base from) pusher)
