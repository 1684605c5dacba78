-- The order by the parts of a tree: each link is in it, it is transitive, and what is in it has links. So it is the closure of the links.
-- Then how it and the links grow from a step to its child and to its continuation.
use Rattle.std.specs.Prelude.{ℕ, suc, ◌+◌, ◌<◌, ◌≡◌, true, false, List, ◌⊎◌, length}
use Rattle.std.proofs.Common.{sym, ◌∙◌, inl, inr, ⊎_elim}
use Rattle.std.proofs.Math.Decide.{ℕ_discrete, dec_le, dec_lt}
use native.Mathlib.Omega.{arith}
use Rattle.rules.specs.Tree.{kind_at, is_finish, task, cont}
use Rattle.rules_dag.specs.Precedence.{directly, Precedes, link, more}
use Rattle.tree_scan.specs.Laws.Shape.{Inside, Shape, child-inside, nested}
use Rattle.tree_scan.specs.Laws.Frames.{end_at, size_at}
use Rattle.tree_scan.specs.Laws.Places.{task-child, task-cont}
use Rattle.tree_scan.specs.Laws.Openings.{Opened, opened, finish_opens, root-ind, home, young}
use Rattle.dag_order.specs.Terms.{Finished, Directly, Across, Ahead}
use Rattle.dag_order.proofs.Laws.Links.{directly-is, is-directly}

module _ (ks : List ℕ) (sh : Shape (length ks) (end_at ks) (size_at ks)) where
  -- A step that opens a finish child, by sizes.
  pub finish_opened : (p : ℕ) → p < length ks → is_finish (kind_at ks p) ≡ true → Opened ks p
  finish_opened p h f = opened ks sh p h (finish_opens ks p f)

  across_opened : {i j : ℕ} (a : Across ks i j) → Opened ks a.opener
  across_opened a = finish_opened a.opener a.within a.finish

  -- Where a step of a finish child's is.
  across_child : {i j : ℕ} (a : Across ks i j) → suc a.opener < length ks
  across_child a = child-inside sh a.opener a.within (finish_opens ks a.opener a.finish)

  -- Another step of the finish child, and another behind it.
  across_from : {i j k : ℕ} (a : Across ks j k) → Inside (size_at ks) (suc a.opener) i → Across ks i k
  across_from a w = record { opener = a.opener; within = a.within; finish = a.finish; first = w; second = a.second }

  across_to : {i j k : ℕ} (a : Across ks i j) → Inside (size_at ks) (cont ks a.opener) k → Across ks i k
  across_to a w = record { opener = a.opener; within = a.within; finish = a.finish; first = a.first; second = w }

  -- ---- upwards

  pub direct_higher : (i j : ℕ) → j < length ks → Directly ks i j → i < j
  direct_higher i j h d =
      ⊎_elim (λ s. omega (arith, s.1, (home ks sh j h).0)) (⊎_elim (λ s. s.0) (λ f. omega (arith, f.high, f.past))) d

  pub ahead_higher : (i j : ℕ) → Ahead ks i j → i < j
  ahead_higher i j c = ⊎_elim (λ a. a.0) (λ a. omega (arith, a.first, a.second, (across_opened a).after)) c

  pub precedes_higher : {i j : ℕ} → j < length ks → Precedes ks i j → i < j
  precedes_higher {i} {j} h (link d) = direct_higher i j h (directly-is ks i j d)
  precedes_higher {i} {j} h (more {k = k} b d) =
      let l = direct_higher k j h (directly-is ks k j d) in
      omega (arith, precedes_higher (omega arith) b)

  -- ---- each link is in the order

  ahead_direct : (i j : ℕ) → i < length ks → j < length ks → Directly ks i j → Ahead ks i j
  ahead_direct i j hi h d =
      let some = (sh.at j h).some in
      let own = home ks sh j h in
      ⊎_elim
      (λ s.
      let o = opened ks sh i hi s.0 in
      inl (omega (arith, s.1), omega (arith, rw s.1 at own.1, o.after, o.size)))
      (⊎_elim (λ s. let his = (home ks sh i hi).1 in inl (s.0, omega (arith, his, rw s.1 at his))) (λ f. inr (past f)))
      d
    where
      past : Finished ks i j → Across ks i j
      past f =
          let p = f.opener in
          let o = finish_opened p f.within f.finish in
          let his = (home ks sh p f.within).1 in
          record {
            opener = p;
            within = f.within;
            finish = f.finish;
            first = (f.low, omega (arith, f.high, o.after));
            second = (f.past, omega (arith, his, rw f.same at his, (home ks sh j h).1, (sh.at j h).some, o.after, o.size));
          }

  -- ---- the order is transitive

  pub ahead_trans : (i j k : ℕ) → i < length ks → j < length ks → k < length ks → Ahead ks i j → Ahead ks j k → Ahead ks i k
  ahead_trans i j k hi hj hk first second =
      ⊎_elim
      (λ a. ⊎_elim (λ b. inl (omega arith, omega (arith, nested sh i j hi (omega arith, a.1)))) (λ c. down a c) second)
      (λ c. ⊎_elim (λ b. along c b) (λ d. twice c d) second)
      first
    where
      down : (i < j) × (j < i + size_at ks i) → Across ks j k → Ahead ks i k
      down a c =
          let p = c.opener in
          let o = across_opened c in
          elim (dec_le (suc p) i) [
            | yes s ↦ inr
                (across_from c (s, omega (arith, c.first)))
            | no n ↦ (
                let inner = nested sh i p hi (omega arith, omega (arith, c.first)) in
                inl (omega (arith, c.second, o.after, c.first), omega (arith, inner, c.second, o.size, o.after)))
          ]

      along : Across ks i j → (j < k) × (k < j + size_at ks j) → Ahead ks i k
      along c b =
          let p = c.opener in
          let o = across_opened c in
          inr (across_to c (omega (arith, c.second), omega (arith, nested sh (cont ks p) j o.room c.second)))

      twice : Across ks i j → Across ks j k → Ahead ks i k
      twice c d =
          let p = c.opener in
          let q = d.opener in
          let o = across_opened c in
          let u = across_opened d in
          elim (dec_lt q p) [
            | yes l ↦ inr
                (across_from d (omega (arith, c.first), omega (arith, c.first, c.second, o.after, d.first)))
            | no n ↦ elim (ℕ_discrete q p) [
              | yes s ↦ absurd (omega (arith, rw s at d.first, c.second, o.after))
              | no m ↦ elim (dec_le (cont ks p) q) [
                | yes l ↦ (
                    let inner = nested sh (cont ks p) q o.room (l, omega (arith, d.first, c.second)) in
                    inr (across_to c (omega (arith, d.second, u.after), omega (arith, inner, d.second, u.size, u.after))))
                | no g ↦ absurd (
                    let inner = nested sh (suc p) q (across_child c) (omega arith, omega (arith, o.after)) in
                    omega (arith, inner, d.first, c.second, o.after, u.size, u.after))
              ]
            ]
          ]

  pub precedes_ahead : {i j : ℕ} → j < length ks → Precedes ks i j → Ahead ks i j
  precedes_ahead {i} {j} h (link d) =
      let r = directly-is ks i j d in
      ahead_direct i j (omega (arith, direct_higher i j h r)) h r
  precedes_ahead {i} {j} h (more {k = k} b d) =
      let r = directly-is ks k j d in
      let l = direct_higher k j h r in
      let m : i < k = precedes_higher (omega arith) b in
      ahead_trans i k j (omega arith) (omega arith) h (precedes_ahead (omega arith) b) (ahead_direct k j (omega arith) h r)

  -- ---- what is in the order has links

  pub precedes_trans : {i k j : ℕ} → Precedes ks i k → Precedes ks k j → Precedes ks i j
  precedes_trans a (link d) = more a d
  precedes_trans a (more b d) = more (precedes_trans a b) d

  pub link_child : (x : ℕ) → x < length ks → end_at ks x ≡ false → directly ks x (suc x) ≡ true
  link_child x h e = is-directly ks x (suc x) (inl (e, task-child ks sh x h e))

  pub link_cont : (x : ℕ) → x < length ks → end_at ks x ≡ false → directly ks x (cont ks x) ≡ true
  link_cont x h e =
      let o = opened ks sh x h e in
      is-directly ks x (cont ks x) (inr (inl (omega (arith, o.after), sym (task-cont ks sh x h e))))

  pub link_finish : (x i : ℕ) → x < length ks → is_finish (kind_at ks x) ≡ true → Inside (size_at ks) (suc x) i
      → directly ks i (cont ks x) ≡ true
  link_finish x i h f w =
      let e = finish_opens ks x f in
      let o = opened ks sh x h e in
      is-directly ks i (cont ks x)
      (inr
      (inr
      (record {
        opener = x;
        within = h;
        finish = f;
        same = sym (task-cont ks sh x h e);
        past = omega arith;
        low = w.0;
        high = omega (arith, o.after, w.1);
      })))

  -- Down to a step from all that it is inside.
  Down : ℕ → Type 0
  Down j = (i : ℕ) → i < j → j < i + size_at ks i → Precedes ks i j

  down_root : Down 0
  unfolding Down
  down_root i l u = absurd (omega arith)

  down_child : (x : ℕ) → x < length ks → end_at ks x ≡ false → Down x → Down (suc x)
  unfolding Down
  down_child x h e old i l u =
      elim (ℕ_discrete i x) [
        | yes s ↦ rw s (link (link_child x h e))
        | no n ↦ more (old i (omega arith) (omega arith)) (link_child x h e)
      ]

  down_rest : (x : ℕ) → x < length ks → end_at ks x ≡ false → Down x → Down (cont ks x)
  unfolding Down
  down_rest x h e old i l u =
      let o = opened ks sh x h e in
      elim (ℕ_discrete i x) [
        | yes s ↦ rw s (link (link_cont x h e))
        | no n ↦ elim (dec_lt i x) [
          | yes s ↦ more (old i s (omega (arith, o.after))) (link_cont x h e)
          | no m ↦ absurd (
              let inner = nested sh (suc x) i (child-inside sh x h e) (omega arith, omega (arith, o.after)) in
              omega (arith, inner, o.after))
        ]
      ]

  down : (j : ℕ) → j < length ks → (i : ℕ) → i < j → j < i + size_at ks i → Precedes ks i j
  unfolding Down
  down = root-ind ks sh Down down_root down_child down_rest

  pub ahead_precedes : (i j : ℕ) → j < length ks → Ahead ks i j → Precedes ks i j
  ahead_precedes i j h c =
      ⊎_elim (λ a. down j h i a.0 a.1)
      (λ a.
      let p = a.opener in
      let d = link_finish p i a.within a.finish a.first in
      elim (ℕ_discrete j (cont ks p)) [
        | yes s ↦ rw s (link d)
        | no n ↦ precedes_trans (link d) (down j h (cont ks p) (omega (arith, a.second)) a.second.1)
      ])
      c

  -- ---- how the links grow from step to step

  -- Only its opener precedes a child's first step by one link.
  pub links_child : (i x : ℕ) → x < length ks → end_at ks x ≡ false → Directly ks i (suc x) → i ≡ x
  links_child i x h e d =
      let t = task-child ks sh x h e in
      ⊎_elim (λ s. omega (arith, s.1, t))
      (⊎_elim (λ s. absurd (omega (arith, s.1, t, (home ks sh i (omega (arith, s.0))).0)))
      (λ f.
      let o = finish_opened f.opener f.within f.finish in
      absurd (omega (arith, f.same, t, (home ks sh f.opener f.within).0, f.past, o.after))))
      d

  -- A continuation has its opener, what precedes that, and the child where it is a finish child.
  pub links_cont : (i x : ℕ) → x < length ks → end_at ks x ≡ false → Directly ks i (cont ks x)
      → (i ≡ x) ⊎ (Directly ks i x ⊎ ((is_finish (kind_at ks x) ≡ true) × Inside (size_at ks) (suc x) i))
  links_cont i x h e d =
      ⊎_elim (λ s. inr (inl (inl (s.0, sym t ∙ s.1)))) (⊎_elim (λ s. same s) (λ f. finished f)) d
    where
      t : task ks (cont ks x) ≡ task ks x
      t = task-cont ks sh x h e

      same : (i < cont ks x) × (task ks i ≡ task ks (cont ks x))
          → (i ≡ x) ⊎ (Directly ks i x ⊎ ((is_finish (kind_at ks x) ≡ true) × Inside (size_at ks) (suc x) i))
      same s =
          let o = opened ks sh x h e in
          elim (ℕ_discrete i x) [
            | yes m ↦ inl m
            | no n ↦ elim (dec_lt i x) [
              | yes l ↦ inr (inl (inr (inl (l, s.1 ∙ t))))
              | no m ↦ absurd (
                  let inner = young ks sh x h e i (omega (arith, s.0, o.room)) (omega arith, omega (arith, s.0, o.after)) in
                  omega (arith, inner, s.1, t, (home ks sh x h).0))
            ]
          ]

      finished : Finished ks i (cont ks x)
          → (i ≡ x) ⊎ (Directly ks i x ⊎ ((is_finish (kind_at ks x) ≡ true) × Inside (size_at ks) (suc x) i))
      finished f =
          let o = opened ks sh x h e in
          let p = f.opener in
          let u = finish_opened p f.within f.finish in
          let out = finish_opens ks p f.finish in
          elim (ℕ_discrete p x) [
            | yes s ↦ inr (inr (rw s at f.finish, (rw s at f.low, omega (arith, rw s at f.high, o.after))))
            | no n ↦ elim (dec_lt p x) [
              | yes l ↦ elim (dec_le (cont ks p) x) [
                | yes g ↦ inr
                    (inl
                    (inr
                    (inr
                    (record {
                      opener = p;
                      within = f.within;
                      finish = f.finish;
                      same = f.same ∙ t;
                      past = g;
                      low = f.low;
                      high = f.high;
                    }))))
                | no m ↦ absurd (
                    let inner = young ks sh p f.within out x h (omega arith, omega (arith, u.after)) in
                    omega (arith, inner, f.same, t, (home ks sh p f.within).0))
              ]
              | no m ↦ absurd (
                  let inner = young ks sh x h e p f.within (omega arith, omega (arith, f.past, u.after, o.after)) in
                  omega (arith, inner, f.same, t, (home ks sh x h).0))
            ]
          ]
