-- Records as bytes, over their width: how many bytes some of them have, one more at the end, and the bytes cut into records again.
-- Then those of a log and a trace, four bytes each; what is read from their bytes; and one more stored in an array that has those
-- before it at its front.
use Prim.Native.Nat.{ℕ, zero, suc, ◌+◌, ◌*◌, ◌/◌, ◌%◌, ◌≤◌, ◌<◌}
use Rattle.std.specs.Prelude.{◌≡◌, true, length, take, drop, get_or, eqb}
use Rattle.std.proofs.Math.Path.{refl}
use Rattle.std.proofs.Common.{sym, ◌∙◌, true≢false, take_at, eq-eqb, ne_eqb}
use mathlib.Core.List.{List, [], ◌∷◌, ◌++◌, map, flatten, append-nil, append_assoc, map-append}
use Rattle.std.proofs.Math.Decide.{ℕ_discrete}
use Rattle.std.proofs.Math.Nat.{mul-zero, mul-suc, mul-div_cancel_left}
use native.Mathlib.Omega.{arith}
use Rattle.std.proofs.Math.ListN.{length-append, length-set}
use Rattle.std.proofs.lemmas.List.{length-map}
use Rattle.std.proofs.lemmas.List.Edits.{sets}
use Rattle.std.proofs.Math.Seq.{sets-eq, drop_at, take-append_seam}
use Rattle.rules.specs.Bytes.{two_bytes, cut, records, all}
use Rattle.rules.specs.Scheduling.{Entry, Steal}
use Rattle.rules.specs.Traces.{trace_number, trace_bytes, entry_bytes}
use Rattle.buffers.specs.Terms.{number_at, record_put}

-- ---- lists written one behind the other

module _ {B : Type 0} where
  flatten_append : (xs ys : List (List B)) → flatten (xs ++ ys) ≡ flatten xs ++ flatten ys
  unfolding flatten
  flatten_append [] ys = refl
  flatten_append (x ∷ xs) ys = rw (flatten_append xs ys) (sym (append_assoc x (flatten xs) (flatten ys)))

  pub flatten-one : (xs : List (List B)) (x : List B) → flatten (xs ++ (x ∷ [])) ≡ flatten xs ++ x
  unfolding flatten
  flatten-one xs x = flatten_append xs (x ∷ []) ∙ rw append-nil refl

module _ {A B : Type 0} (f : A → List B) where
  flat_append : (xs ys : List A) → flatten (map f (xs ++ ys)) ≡ flatten (map f xs) ++ flatten (map f ys)
  flat_append xs ys = rw map-append (flatten_append (map f xs) (map f ys))

  pub flat-one : (xs : List A) (x : A) → flatten (map f (xs ++ (x ∷ []))) ≡ flatten (map f xs) ++ f x
  flat-one xs x = rw map-append (flatten-one (map f xs) (f x))

-- ---- records of any width, as bytes

-- Each record has w bytes.
abbrev pub Wide : ℕ → List (List ℕ) → Type 0
Wide w rs = all (λ r. eqb (length r) w) rs ≡ true

module _ (w : ℕ) where
  wide_cons : (r : List ℕ) (rs : List (List ℕ)) → length r ≡ w → Wide w rs → Wide w (r ∷ rs)
  unfolding all
  wide_cons r rs e each = rw (eq-eqb (length r) w e) each

  -- The first record, and those behind it.
  wide_both : (r : List ℕ) (rs : List (List ℕ)) → Wide w (r ∷ rs) → (length r ≡ w) × Wide w rs
  unfolding all
  wide_both r rs each =
      elim (ℕ_discrete (length r) w) [
        | yes e ↦ (e, rw (eq-eqb (length r) w e) at each)
        | no n ↦ absurd (true≢false (sym (rw (ne_eqb (length r) w n) at each)))
      ]

  pub wide_one : (rs : List (List ℕ)) (r : List ℕ) → Wide w rs → length r ≡ w → Wide w (rs ++ (r ∷ []))
  wide_one [] r each e = wide_cons r [] e (unfold all in refl)
  wide_one (x ∷ rs) r each e =
      let both = wide_both x rs each in
      wide_cons x (rs ++ (r ∷ [])) both.0 (wide_one rs r both.1 e)

  pub wide_map : {A : Type 0} (f : A → List ℕ) → ((x : A) → length (f x) ≡ w) → (xs : List A) → Wide w (map f xs)
  wide_map f e [] = unfold all in refl
  wide_map f e (x ∷ xs) = wide_cons (f x) (map f xs) (e x) (wide_map f e xs)

  pub flatten-length : (rs : List (List ℕ)) → Wide w rs → length (flatten rs) ≡ w * length rs
  unfolding flatten
  flatten-length [] each = rw mul-zero refl
  flatten-length (r ∷ rs) each =
      let both = wide_both r rs each in
      omega (arith, length-append r (flatten rs), both.0, flatten-length rs both.1, mul-suc w (length rs))

  pub flat-length : {A : Type 0} (f : A → List ℕ) → ((x : A) → length (f x) ≡ w) → (xs : List A)
      → length (flatten (map f xs)) ≡ w * length xs
  flat-length f e xs = flatten-length (map f xs) (wide_map f e xs) ∙ rw length-map refl

  cut-flatten : (rs : List (List ℕ)) → Wide w rs → cut w (length rs) (flatten rs) ≡ rs
  unfolding cut flatten
  cut-flatten [] each = refl
  cut-flatten (r ∷ rs) each =
      let both = wide_both r rs each in
      rw (take_at r (flatten rs) w both.0, drop_at r (flatten rs) w both.0, cut-flatten rs both.1) refl

  -- Cut into records again, the bytes are what they were made of.
  pub flatten-records : 0 < w → (rs : List (List ℕ)) → Wide w rs → records w (flatten rs) ≡ rs
  unfolding records
  flatten-records some rs each = rw (flatten-length rs each, mul-div_cancel_left (length rs) some) (cut-flatten rs each)

-- ---- records of four bytes

pub length-entries : (entries : List Entry) → length (entry_bytes entries) ≡ 4 * length entries
unfolding entry_bytes two_bytes
length-entries entries = flat-length 4 (λ e. two_bytes e.phase ++ two_bytes e.step) (λ e. refl) entries

pub entries_append : (xs ys : List Entry) → entry_bytes (xs ++ ys) ≡ entry_bytes xs ++ entry_bytes ys
unfolding entry_bytes
entries_append xs ys = flat_append _ xs ys

pub entries-one : (entries : List Entry) (phase step : ℕ)
    → entry_bytes (entries ++ (record { phase = phase; step = step } ∷ []))
    ≡ entry_bytes entries ++ (phase % 256 ∷ phase / 256 % 256 ∷ two_bytes step)
unfolding entry_bytes two_bytes
entries-one entries phase step =
    flat-one (λ e. two_bytes e.phase ++ two_bytes e.step) entries (record { phase = phase; step = step })

module _ (p : ℕ) (ks : List ℕ) where
  pub length_trace : (steals : List Steal) → length (trace_bytes p ks steals) ≡ 4 * length steals
  unfolding trace_bytes two_bytes
  length_trace steals = flat-length 4 (λ s. s.thief ∷ s.victim ∷ two_bytes (trace_number p ks s.step)) (λ s. refl) steals

  pub trace_one : (steals : List Steal) (thief victim step : ℕ)
      → trace_bytes p ks (steals ++ (record { thief = thief; victim = victim; step = step } ∷ []))
      ≡ trace_bytes p ks steals ++ (thief ∷ victim ∷ two_bytes (trace_number p ks step))
  unfolding trace_bytes
  trace_one steals thief victim step =
      flat-one (λ s. s.thief ∷ s.victim ∷ two_bytes (trace_number p ks s.step)) steals
      (record { thief = thief; victim = victim; step = step })

-- ---- records of four bytes, read again

-- What stands at entry i.
abbrev pub entry_at : List Entry → ℕ → Entry
entry_at es i = get_or es i (record { phase = 0; step = 0 })

module _ (rest : List ℕ) where
  phase_first : (e : Entry) (es : List Entry) → e.phase < 65536 → number_at (entry_bytes (e ∷ es) ++ rest) 0 ≡ e.phase
  unfolding number_at entry_bytes two_bytes flatten
  phase_first e es h = omega arith

  step-first : (e : Entry) (es : List Entry) → e.step < 65536 → number_at (entry_bytes (e ∷ es) ++ rest) 2 ≡ e.step
  unfolding number_at entry_bytes two_bytes flatten
  step-first e es h = omega arith

  number-later : (e : Entry) (es : List Entry) (i : ℕ)
      → number_at (entry_bytes (e ∷ es) ++ rest) (4 + i) ≡ number_at (entry_bytes es ++ rest) i
  unfolding number_at entry_bytes two_bytes flatten
  number-later e es i =
      let one : 4 + i ≡ suc (suc (suc (suc i))) = omega arith in
      let two : suc (suc (suc (suc i))) + 1 ≡ suc (suc (suc (suc (i + 1)))) = omega arith in
      rw (one, two) refl

  -- A field of entry i, by what its bytes are in the first.
  number_at_lem : (field : Entry → ℕ) (at : ℕ)
      → ((e : Entry) (es : List Entry) → field e < 65536 → number_at (entry_bytes (e ∷ es) ++ rest) at ≡ field e)
      → (es : List Entry) (i : ℕ) → i < length es → field (entry_at es i) < 65536
      → number_at (entry_bytes es ++ rest) (4 * i + at) ≡ field (entry_at es i)
  number_at_lem field at first [] i h l = absurd (omega arith)
  number_at_lem field at first (e ∷ es) zero h l =
      let here : 4 * 0 + at ≡ at = omega arith in
      rw here (first e es l)
  number_at_lem field at first (e ∷ es) (suc i) h l =
      let next : 4 * suc i + at ≡ 4 + (4 * i + at) = omega arith in
      rw (next, number-later e es (4 * i + at)) (number_at_lem field at first es i (omega arith) l)

  pub number_phase : (es : List Entry) (i : ℕ) → i < length es → (entry_at es i).phase < 65536
      → number_at (entry_bytes es ++ rest) (4 * i) ≡ (entry_at es i).phase
  number_phase es i h l =
      let here : 4 * i ≡ 4 * i + 0 = omega arith in
      rw here (number_at_lem (λ e. e.phase) 0 phase_first es i h l)

  pub number_step : (es : List Entry) (i : ℕ) → i < length es → (entry_at es i).step < 65536
      → number_at (entry_bytes es ++ rest) (4 * i + 2) ≡ (entry_at es i).step
  number_step = number_at_lem (λ e. e.step) 2 step-first

-- ---- a record stored

module _ (buffer : List ℕ) (k a b n : ℕ) where
  pub put-length : length (record_put buffer k a b n) ≡ length buffer
  unfolding record_put
  put-length = simp length-set

  pub put-sets : record_put buffer k a b n ≡ sets buffer (4 * k) (a ∷ b ∷ two_bytes n)
  unfolding record_put two_bytes
  put-sets =
      let one : 4 * k + 1 ≡ suc (4 * k) = omega arith in
      let two : 4 * k + 2 ≡ suc (suc (4 * k)) = omega arith in
      let three : 4 * k + 3 ≡ suc (suc (suc (4 * k))) = omega arith in
      rw (one, two, three) refl

  -- The record goes behind the k before it.
  pub put_front : (bytes : List ℕ) → length bytes ≡ 4 * k → 4 * k + 4 ≤ length buffer → take (length bytes) buffer ≡ bytes
      → take (length (bytes ++ (a ∷ b ∷ two_bytes n))) (record_put buffer k a b n) ≡ bytes ++ (a ∷ b ∷ two_bytes n)
  unfolding two_bytes
  put_front bytes e room front =
      let stored = sets-eq (a ∷ b ∷ two_bytes n) buffer (4 * k) room in
      rw (put-sets, stored, ← e, front) (take-append_seam (bytes ++ (a ∷ b ∷ two_bytes n)) (drop (length bytes + 4) buffer))
