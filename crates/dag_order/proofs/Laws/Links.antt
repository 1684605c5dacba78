-- One link, as a test and as a fact.
use Prim.Native.Nat.{ℕ, zero, suc, ◌+◌, ◌≤◌, ◌<◌}
use Rattle.std.specs.Prelude.{◌≡◌, Bool, false, ◌&&◌, ◌||◌, not, List, ◌⊎◌, length, eqb, leb}
use Rattle.std.proofs.Math.Path.{refl}
use Rattle.std.proofs.Common.{sym, true≢false}
use Rattle.std.proofs.Math.Bool.{true, or-true}
use Rattle.std.proofs.Math.Logic.{inl, inr, ⊎_elim}
use Rattle.std.proofs.Math.Decide.{ℕ_discrete}
use native.Mathlib.Omega.{arith}
use Rattle.std.proofs.Math.Dec.{ltb}
use borrow.Author.Tests.{ltb-true, leb-true, eqb-true, not-true, lt-ltb, le-leb, eq-eqb}
use Rattle.rules.specs.Bytes.{count, any}
use Rattle.rules.specs.Tree.{kind_at, is_end, is_finish, task, cont}
use Rattle.rules_dag.specs.Precedence.{spawns, earlier, in_finish, follows_child, directly}
use Rattle.tree_scan.specs.Laws.Frames.{end_at}
use Rattle.run_invariant.proofs.Laws.Counts.{and_both}
use Rattle.dag_order.specs.Terms.{Finished, Directly}

-- ---- truth values

pub or_either : (x y : Bool) → x || y ≡ true → (x ≡ true) ⊎ (y ≡ true)
or_either true y e = inl refl
or_either false y e = inr e

pub or_left : (x y : Bool) → x ≡ true → x || y ≡ true
or_left x y e = rw e refl

pub or_right : (x y : Bool) → y ≡ true → x || y ≡ true
or_right x y e = rw e (or-true x)

-- A test that some number of an interval passes, and the number.
module _ (f : ℕ → Bool) where
  any_found : (m a : ℕ) → any f (count a m) ≡ true → (p : ℕ) × ((a ≤ p) × (p < a + m)) × (f p ≡ true)
  unfolding any count
  any_found zero a e = absurd (true≢false (sym e))
  any_found (suc m) a e =
      ⊎_elim (λ x. (a, (omega arith, omega arith), x))
      (λ y.
      let r = any_found m (suc a) y in
      (r.0, (omega arith, omega arith), r.2))
      (or_either (f a) (any f (count (suc a) m)) e)

  found_any : (m a p : ℕ) → a ≤ p → p < a + m → f p ≡ true → any f (count a m) ≡ true
  unfolding any count
  found_any zero a p l u e = absurd (omega arith)
  found_any (suc m) a p l u e =
      elim (ℕ_discrete p a) [
        | yes s ↦ or_left (f a) _ (rw s at e)
        | no n ↦ or_right (f a) _ (found_any m (suc a) p (omega arith) (omega arith) e)
      ]

-- ---- one link

module _ (ks : List ℕ) (i j : ℕ) where
  -- Whether step p opened a finish child that has step i and that step j follows.
  between : ℕ → Bool
  between p = in_finish ks p i && follows_child ks p j

  finished_of : (p : ℕ) → p < length ks → between p ≡ true → Finished ks i j
  unfolding between in_finish follows_child
  finished_of p h e =
      let both = and_both (in_finish ks p i) (follows_child ks p j) e in
      let child = and_both (is_finish (kind_at ks p)) (leb (suc p) i && ltb i (cont ks p)) both.0 in
      let steps = and_both (leb (suc p) i) (ltb i (cont ks p)) child.1 in
      let next = and_both (eqb (task ks p) (task ks j)) (leb (cont ks p) j) both.1 in
      record {
        opener = p;
        within = h;
        finish = child.0;
        same = eqb-true (task ks p) (task ks j) next.0;
        past = leb-true (cont ks p) j next.1;
        low = leb-true (suc p) i steps.0;
        high = ltb-true i (cont ks p) steps.1;
      }

  of_finished : (f : Finished ks i j) → between f.opener ≡ true
  unfolding between in_finish follows_child
  of_finished f =
      let p = f.opener in
      rw (
        f.finish,
        le-leb (suc p) i f.low,
        lt-ltb i (cont ks p) f.high,
        eq-eqb (task ks p) (task ks j) f.same,
        le-leb (cont ks p) j f.past,
      ) refl

  spawns-is : spawns ks i j ≡ true → (end_at ks i ≡ false) × (task ks j ≡ suc i)
  unfolding spawns end_at
  spawns-is s =
      let b = and_both (not (is_end (kind_at ks i))) (eqb (task ks j) (suc i)) s in
      (not-true (is_end (kind_at ks i)) b.0, eqb-true (task ks j) (suc i) b.1)

  is-spawns : (end_at ks i ≡ false) × (task ks j ≡ suc i) → spawns ks i j ≡ true
  unfolding spawns end_at
  is-spawns s = rw (s.0, eq-eqb (task ks j) (suc i) s.1) refl

  earlier-is : earlier ks i j ≡ true → (i < j) × (task ks i ≡ task ks j)
  unfolding earlier
  earlier-is s =
      let b = and_both (ltb i j) (eqb (task ks i) (task ks j)) s in
      (ltb-true i j b.0, eqb-true (task ks i) (task ks j) b.1)

  is-earlier : (i < j) × (task ks i ≡ task ks j) → earlier ks i j ≡ true
  unfolding earlier
  is-earlier s = rw (lt-ltb i j s.0, eq-eqb (task ks i) (task ks j) s.1) refl

  -- Whether some step did.
  waited : Bool
  waited = any between (count 0 (length ks))

  pub directly-is : directly ks i j ≡ true → Directly ks i j
  unfolding directly waited between
  directly-is e =
      ⊎_elim (λ s. inl (spawns-is s))
      (λ r. inr (⊎_elim (λ s. inl (earlier-is s)) (λ s. inr (finished s)) (or_either (earlier ks i j) waited r)))
      (or_either (spawns ks i j) (earlier ks i j || waited) e)
    where
      finished : any between (count 0 (length ks)) ≡ true → Finished ks i j
      finished s = let f = any_found between (length ks) 0 s in finished_of f.0 (omega arith) f.2

  pub is-directly : Directly ks i j → directly ks i j ≡ true
  unfolding directly waited between
  is-directly d =
      ⊎_elim (λ s. or_left (spawns ks i j) (earlier ks i j || waited) (is-spawns s))
      (λ r. or_right (spawns ks i j) (earlier ks i j || waited)
      (⊎_elim (λ s. or_left (earlier ks i j) waited (is-earlier s)) (λ f. or_right (earlier ks i j) waited (finished f)) r))
      d
    where
      finished : Finished ks i j → any between (count 0 (length ks)) ≡ true
      finished f = found_any between (length ks) 0 f.opener (omega arith) (omega (arith, f.within)) (of_finished f)
