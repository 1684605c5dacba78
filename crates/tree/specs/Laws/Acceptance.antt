-- Accepting a tree, as the code does it: a record's four tested bytes, one record's refusal, the walk as a loop, and the
-- verdict from what the loop finds. Laws are in the terms of the code.
use Rattle.std.specs.Prelude.{ℕ, zero, suc, ◌+◌, ◌-◌, ◌*◌, ◌/◌, ◌%◌, ◌≤◌, ◌<◌, ◌≡◌, Bool, true, false, ◌&&◌, ◌||◌, length, drop, get_or, eqb, ltb}
use Rattle.std.proofs.Math.Path.{refl, sym, ap}
use Rattle.std.proofs.Common.{◌∙◌, true≢false, lt_of_not-le, add-one, sub-one}
use Rattle.std.proofs.Math.Bool.{and-false, or-true}
use mathlib.Core.List.{List, []}
use Rattle.std.proofs.Math.Decide.{ℕ_discrete, dec_lt, dec_le}
use native.Mathlib.Omega.{arith}
use borrow.Author.Tests.{eq-eqb, ne_eqb, lt-ltb, le-ltb, le-leb, lt-leb}
use Rattle.rules.specs.Bytes.{Verdict, accepted, Walked, walk, whole_records, refused_if, first_refused}
use Rattle.rules.specs.Tree.{tree_records, kind, is_async, is_finish, is_end, class_count, class, kinds, open_after, has_kind, well_formed}
use Rattle.rules.specs.Tree.{judge_tree_record, next_open, tree_walk, wrong_length, tree_verdict}
use Rattle.tree.specs.Contract.{Accepted, acceptance}
use Rattle.tree.specs.Laws.Records.{length-records, length-kinds, field_at}
use Rattle.tree.specs.Laws.Walks.{walk_on, walk_stop, walk_end}

-- ---- a record's bytes 0 to 3

-- Well formed, from the four bytes.
unfoldable pub formed : ℕ → ℕ → ℕ → ℕ → Bool
formed k a b c = (is_async k || is_finish k || is_end k) && ltb a class_count && eqb b 0 && eqb c 0

-- Another kind.
pub formed_other : (k a b c : ℕ) → ((j : ℕ) → 1 ≤ j → j ≤ 3 → k ≡ j → ⊥) → formed k a b c ≡ false
unfolding formed is_async is_finish is_end
formed_other k a b c other =
    rw (
      ne_eqb k 1 (other 1 (omega arith) (omega arith)),
      ne_eqb k 2 (other 2 (omega arith) (omega arith)),
      ne_eqb k 3 (other 3 (omega arith) (omega arith)),
    ) refl

-- No class.
formed-class : (k a b c : ℕ) → 16 ≤ a → formed k a b c ≡ false
unfolding formed
formed-class k a b c h = rw (le-ltb a 16 h, and-false (is_async k || is_finish k || is_end k)) refl

one_of_three : (k : ℕ) → 1 ≤ k → k ≤ 3 → is_async k || is_finish k || is_end k ≡ true
unfolding is_async is_finish is_end
one_of_three zero l h = absurd (omega arith)
one_of_three (suc zero) l h = refl
one_of_three (suc (suc zero)) l h = refl
one_of_three (suc (suc (suc zero))) l h = refl
one_of_three (suc (suc (suc (suc k)))) l h = absurd (omega arith)

-- One of the kinds: the other three bytes decide.
formed_rest : (k a b c : ℕ) → 1 ≤ k → k ≤ 3 → formed k a b c ≡ ltb a class_count && eqb b 0 && eqb c 0
unfolding formed
formed_rest k a b c l h = rw (one_of_three k l h) refl

-- The four bytes as one number, the kind lowest. Where that is one of the three they are well formed exactly where the number is
-- below 16 times 256.
module _ (k a b c head : ℕ) (number : head ≡ k + 256 * a + 65536 * b + 16777216 * c) (l : 1 ≤ k) (h : k ≤ 3) where
  rest_below : head < 4096 → ltb a class_count && eqb b 0 && eqb c 0 ≡ true
  rest_below m = rw (lt-ltb a 16 (omega arith), eq-eqb b 0 (omega arith), eq-eqb c 0 (omega arith)) refl

  rest_above : 4096 ≤ head → ltb a class_count && eqb b 0 && eqb c 0 ≡ false
  rest_above m =
      elim (ℕ_discrete c 0) [
        | no n ↦ rw (ne_eqb c 0 n) (and-false (ltb a class_count && eqb b 0))
        | yes z ↦ elim (ℕ_discrete b 0) [
          | no n ↦ rw (ne_eqb b 0 n, and-false (ltb a class_count)) refl
          | yes y ↦ rw (le-ltb a 16 (omega arith)) refl
        ]
      ]

  pub head-below : ltb head 4096 ≡ formed k a b c
  head-below =
      elim (dec_lt head 4096) [
        | yes m ↦ lt-ltb head 4096 m ∙ sym (formed_rest k a b c l h ∙ rest_below m)
        | no n ↦ le-ltb head 4096 (omega arith) ∙ sym (formed_rest k a b c l h ∙ rest_above (omega arith))
      ]

module _ (tree : List ℕ) (i : ℕ) (h : i < length (kinds tree)) where
  byte : (j : ℕ) → j < 8 → get_or (get_or (tree_records tree) i []) j 0 ≡ get_or tree (8 * i + j) 0
  unfolding tree_records
  byte j l = field_at 8 tree i j (omega (arith, length-kinds tree)) l

  pub record_kind : kind (get_or (tree_records tree) i []) ≡ get_or tree (8 * i) 0
  unfolding kind
  record_kind =
      let e : 8 * i + 0 ≡ 8 * i = omega arith in
      rw e at (byte 0 (omega arith))

  pub well_formed-at :
      well_formed (get_or (tree_records tree) i [])
      ≡ formed (get_or tree (8 * i) 0) (get_or tree (8 * i + 1) 0) (get_or tree (8 * i + 2) 0) (get_or tree (8 * i + 3) 0)
  unfolding well_formed has_kind class formed
  well_formed-at = rw (record_kind, byte 1 (omega arith), byte 2 (omega arith), byte 3 (omega arith)) refl

-- ---- one record's refusal

module _ (d : ℕ) (r : List ℕ) where
  pub judge_malformed : well_formed r ≡ false → judge_tree_record d r ≡ 3
  unfolding judge_tree_record
  judge_malformed w = rw w refl

  pub judge_full : well_formed r ≡ true → d ≡ 64 → (kind r ≡ 3 → ⊥) → judge_tree_record d r ≡ 4
  unfolding judge_tree_record is_end
  judge_full w e k = rw (w, e, ne_eqb (kind r) 3 k) refl

  pub judge_last_end : well_formed r ≡ true → d ≡ 64 → kind r ≡ 3 → judge_tree_record d r ≡ 0
  unfolding judge_tree_record is_end
  judge_last_end w e k = rw (w, e, k) refl

  pub judge_after : well_formed r ≡ true → d ≡ 0 → judge_tree_record d r ≡ 5
  unfolding judge_tree_record
  judge_after w e = rw (w, e) refl

  pub judge_fine : well_formed r ≡ true → (d ≡ 64 → ⊥) → (d ≡ 0 → ⊥) → judge_tree_record d r ≡ 0
  unfolding judge_tree_record
  judge_fine w f z = rw (w, ne_eqb d 64 f, ne_eqb d 0 z) refl

-- What a record that is not refused says of itself and of the tasks open before it.
judged-formed : (d : ℕ) (r : List ℕ) → judge_tree_record d r ≡ 0 → well_formed r ≡ true
judged-formed d r e = by (well_formed r) refl
  where
    by : (b : Bool) → well_formed r ≡ b → well_formed r ≡ true
    by false w = absurd (omega (arith, judge_malformed d r w))
    by true w = w

pub judged_open : (d : ℕ) (r : List ℕ) → judge_tree_record d r ≡ 0 → (d ≡ 0 → ⊥) × (d ≡ 64 → kind r ≡ 3)
judged_open d r e =
    let w = judged-formed d r e in (
      (λ z. absurd (omega (arith, judge_after d r w z))),
      (λ f. elim (ℕ_discrete (kind r) 3) [ yes k ↦ k | no k ↦ absurd (omega (arith, judge_full d r w f k)) ]),
    )

pub judged-kind : (d : ℕ) (r : List ℕ) → judge_tree_record d r ≡ 0 → (1 ≤ kind r) × (kind r ≤ 3)
unfolding well_formed has_kind class formed
judged-kind d r e = (
  elim (dec_le 1 (kind r)) [ yes h ↦ h | no h ↦ other (λ j l u s. absurd (omega (arith, lt_of_not-le h))) ],
  elim (dec_le (kind r) 3) [ yes h ↦ h | no h ↦ other (λ j l u s. absurd (omega (arith, lt_of_not-le h))) ],
)
  where
    other : {A : Type 0} → ((j : ℕ) → 1 ≤ j → j ≤ 3 → kind r ≡ j → ⊥) → A
    other f = absurd (true≢false (sym (judged-formed d r e) ∙ formed_other (kind r) (get_or r 1 0) (get_or r 2 0) (get_or r 3 0) f))

pub judged-class : (d : ℕ) (r : List ℕ) → judge_tree_record d r ≡ 0 → class r < class_count
unfolding well_formed has_kind class formed
judged-class d r e =
    elim (dec_lt (class r) 16) [
      | yes h ↦ h
      | no n ↦ absurd
          (true≢false (sym (judged-formed d r e) ∙ formed-class (kind r) (class r) (get_or r 2 0) (get_or r 3 0) (omega arith)))
    ]

-- ---- the walk as a loop

-- At position i the walk has `depth` tasks open.
pub record Walking (tree : List ℕ) (i depth : ℕ) : Type 0 where
  pub within : i ≤ length (kinds tree)
  pub deep : depth ≤ 64
  pub same : walk judge_tree_record next_open i depth (drop i (tree_records tree)) ≡ tree_walk tree

module _ (tree : List ℕ) where
  count : length (tree_records tree) ≡ length (kinds tree)
  unfolding tree_records
  count = length-records 8 tree ∙ sym (length-kinds tree)

  pub walking_start : Walking tree 0 1
  unfolding tree_walk
  walking_start = record { within = omega arith; deep = omega arith; same = refl }

  module _ (i depth : ℕ) (w : Walking tree i depth) where
    r : List ℕ
    r = get_or (tree_records tree) i []

    on : i < length (kinds tree) → judge_tree_record depth r ≡ 0
        → walk judge_tree_record next_open (suc i) (open_after (kind r) depth) (drop (suc i) (tree_records tree)) ≡ tree_walk tree
    unfolding r next_open
    on h e =
        sym (walk_on judge_tree_record next_open (tree_records tree) [] i depth (rw count h) e) ∙ w.same

    -- Past an end.
    pub walking-end : i < length (kinds tree) → judge_tree_record depth (get_or (tree_records tree) i []) ≡ 0
        → get_or tree (8 * i) 0 ≡ 3 → (0 < depth) × Walking tree (i + 1) (depth - 1)
    unfolding r open_after is_end
    walking-end h e k =
        let end : kind (get_or (tree_records tree) i []) ≡ 3 = record_kind tree i h ∙ k in
        let was = judged_open depth (get_or (tree_records tree) i []) e in (
          omega (arith, was.0),
          record {
            within = omega arith;
            deep = omega (arith, w.deep);
            same = rw (add-one, sub-one) (rw end at (on h e));
          },
        )

    -- Past an opening.
    pub walking-open : i < length (kinds tree) → judge_tree_record depth (get_or (tree_records tree) i []) ≡ 0
        → (get_or tree (8 * i) 0 ≡ 3 → ⊥) → Walking tree (i + 1) (depth + 1)
    unfolding r open_after is_end
    walking-open h e k =
        let opens : kind (get_or (tree_records tree) i []) ≡ 3 → ⊥ = λ end. k (sym (record_kind tree i h) ∙ end) in
        let room : depth ≡ 64 → ⊥ = λ full. opens ((judged_open depth (get_or (tree_records tree) i []) e).1 full) in
        record {
          within = omega arith;
          deep = omega (arith, w.deep);
          same = rw (add-one, add-one) (rw (ne_eqb (kind (get_or (tree_records tree) i [])) 3 opens) at (on h e));
        }

    -- At a refused record.
    pub walking-stop : i < length (kinds tree) → (judge_tree_record depth (get_or (tree_records tree) i []) ≡ 0 → ⊥)
        → (tree_walk tree).verdict ≡ record { number = judge_tree_record depth (get_or (tree_records tree) i []); position = i }
    walking-stop h e =
        ap (λ (x : Walked ℕ). x.verdict)
        (sym w.same ∙ walk_stop judge_tree_record next_open (tree_records tree) [] i depth (rw count h) e)

    -- At the file's end.
    pub walking-done : length (kinds tree) ≤ i → ((tree_walk tree).verdict.number ≡ 0) × ((tree_walk tree).state ≡ depth)
    unfolding accepted
    walking-done h =
        let done = sym w.same ∙ walk_end judge_tree_record next_open (tree_records tree) [] i depth (rw count h) in
        (ap (λ (x : Walked ℕ). x.verdict.number) done, ap (λ (x : Walked ℕ). x.state) done)

-- ---- the verdict

module _ (tree : List ℕ) where
  pub wrong_part : (length tree % 8 ≡ 0 → ⊥) → wrong_length tree ≡ true
  unfolding wrong_length whole_records
  wrong_part h = rw (ne_eqb (length tree % 8) 0 h) (or-true (eqb (length tree) 0))

  pub wrong_empty : length tree / 8 ≡ 0 → wrong_length tree ≡ true
  unfolding wrong_length
  wrong_empty h =
      elim (ℕ_discrete (length tree) 0) [
        | yes e ↦ rw (eq-eqb (length tree) 0 e) refl
        | no n ↦ wrong_part (λ e. absurd (omega arith))
      ]

  pub wrong_long : 4095 < length tree / 8 → wrong_length tree ≡ true
  unfolding wrong_length whole_records
  wrong_long h =
      rw (lt-leb (length tree / 8) 4095 h, and-false (eqb (length tree % 8) 0)) (or-true (eqb (length tree) 0))

  pub right-length : (length tree / 8 ≡ 0 → ⊥) → length tree % 8 ≡ 0 → length tree / 8 ≤ 4095 → wrong_length tree ≡ false
  unfolding wrong_length whole_records
  right-length n e h =
      rw (ne_eqb (length tree) 0 (λ z. absurd (omega arith)), eq-eqb (length tree % 8) 0 e, le-leb (length tree / 8) 4095 h) refl

  pub verdict_wrong : wrong_length tree ≡ true → tree_verdict tree ≡ record { number = 2; position = 0 }
  unfolding wrong_length tree_verdict first_refused refused_if
  verdict_wrong m = rw m refl

  pub verdict_stop : wrong_length tree ≡ false → (v : Verdict) → (tree_walk tree).verdict ≡ v → (v.number ≡ 0 → ⊥) → tree_verdict tree ≡ v
  unfolding wrong_length tree_verdict first_refused refused_if accepted
  verdict_stop m v e n = rw (m, e, ne_eqb v.number 0 n) refl

  pub verdict_open : wrong_length tree ≡ false → (tree_walk tree).verdict.number ≡ 0 → ((tree_walk tree).state ≡ 0 → ⊥)
      → tree_verdict tree ≡ record { number = 5; position = length tree / 8 }
  unfolding wrong_length tree_verdict first_refused refused_if accepted tree_records
  verdict_open m e n =
      rw (m, eq-eqb (tree_walk tree).verdict.number 0 e, ne_eqb (tree_walk tree).state 0 n, length-records 8 tree) refl

  pub verdict_accepted : wrong_length tree ≡ false → (tree_walk tree).verdict.number ≡ 0 → (tree_walk tree).state ≡ 0
      → tree_verdict tree ≡ record { number = 0; position = 0 }
  unfolding wrong_length tree_verdict first_refused refused_if accepted
  verdict_accepted m e z = rw (m, eq-eqb (tree_walk tree).verdict.number 0 e, eq-eqb (tree_walk tree).state 0 z) refl

-- The answer that a verdict makes.
pub answered-refused : (tree : List ℕ) (v : Verdict) → tree_verdict tree ≡ v → (v.number ≡ 0 → ⊥)
    → ◌≡◌ {A = Accepted} (record { number = v.number; position = v.position; steps = 0 }) (acceptance tree)
unfolding acceptance
answered-refused tree v e n = rw (e, ne_eqb v.number 0 n) refl

pub answered-accepted : (tree : List ℕ) → tree_verdict tree ≡ record { number = 0; position = 0 }
    → ◌≡◌ {A = Accepted} (record { number = 0; position = 0; steps = length tree / 8 }) (acceptance tree)
unfolding acceptance
answered-accepted tree e = rw (e, length-kinds tree) refl
