-- The numbers of an interval: how many, the lowest and the highest of them, two intervals one behind the other, and what a function
-- makes of them.
use Rattle.std.specs.Prelude.{ℕ, zero, suc, ◌+◌, ◌-◌, ◌≤◌, ◌<◌, ◌≡◌, refl, List, [], ◌∷◌, ◌++◌, map, reverse, length, get_or}
use Rattle.std.proofs.Common.{sym, ap, ◌∙◌, map-id, zero-add, add-zero, arith, ext_get_or}
use Rattle.std.proofs.lemmas.List.{reverse-append, length-map}
use Rattle.rules.specs.Bytes.{count}

pub length-count : (m low : ℕ) → length (count low m) ≡ m
unfolding count
length-count zero low = refl
length-count (suc m) low = ap suc (length-count m (suc low))

pub count_snoc : (m low : ℕ) → count low (suc m) ≡ count low m ++ ((low + m) ∷ [])
unfolding count
count_snoc zero low =
    let e : low ≡ low + 0 = omega arith in
    rw (← e) refl
count_snoc (suc m) low =
    let e : suc low + m ≡ low + suc m = omega arith in
    ap (λ (x : List ℕ). low ∷ x) (rw (← e) (count_snoc m (suc low)))

pub count-split : (j k low : ℕ) → count low (j + k) ≡ count low j ++ count (low + j) k
unfolding count
count-split zero k low = rw (zero-add, add-zero) refl
count-split (suc j) k low =
    let e : suc j + k ≡ suc (j + k) = omega arith in
    let f : low + suc j ≡ suc low + j = omega arith in
    rw (e, f) (ap (λ (x : List ℕ). low ∷ x) (count-split j k (suc low)))

-- An interval that has a number has its lowest, and what is above; and its highest, and what is under.
pub count_low : (low end : ℕ) → low < end → count low (end - low) ≡ low ∷ count (suc low) (end - suc low)
unfolding count
count_low low end h =
    let e : end - low ≡ suc (end - suc low) = omega arith in
    rw e refl

pub count_high : (low j : ℕ) → low ≤ j → reverse (count low (suc j - low)) ≡ j ∷ reverse (count low (j - low))
count_high low j h =
    let e : suc j - low ≡ suc (j - low) = omega arith in
    let f : low + (j - low) ≡ j = omega arith in
    rw (e, count_snoc (j - low) low, reverse-append (count low (j - low)) ((low + (j - low)) ∷ []), f) refl

pub count_none : (low end : ℕ) → end ≤ low → count low (end - low) ≡ []
unfolding count
count_none low end h =
    let e : end - low ≡ 0 = omega arith in
    rw e refl

-- What stands at place i.
pub map_at : (f : ℕ → ℕ) (n low i : ℕ) → i < n → get_or (map f (count low n)) i 0 ≡ f (low + i)
unfolding count
map_at f zero low i h = absurd (omega arith)
map_at f (suc n) low zero h = rw add-zero refl
map_at f (suc n) low (suc i) h =
    let place : low + suc i ≡ suc low + i = omega arith in
    rw place (map_at f n (suc low) i (omega arith))

pub count_at : (n low i : ℕ) → i < n → get_or (count low n) i 0 ≡ low + i
count_at n low i h = ap (λ (l : List ℕ). get_or l i 0) (sym (map-id (count low n))) ∙ map_at (λ (x : ℕ). x) n low i h

pub map-length : (f : ℕ → ℕ) (n low : ℕ) → length (map f (count low n)) ≡ n
map-length f n low = length-map (count low n) f ∙ length-count n low

-- A function of the numbers of an interval, and another of a list that has as many members.
pub map-count : {A B : Type 0} (f : A → B) (g : ℕ → B) (d : A) (a : ℕ) (es : List A)
    → ((i : ℕ) → i < length es → g (a + i) ≡ f (get_or es i d)) → map g (count a (length es)) ≡ map f es
unfolding count
map-count f g d a [] e = refl
map-count {B = B} f g d a (x ∷ es) e =
    let here : a + 0 ≡ a = omega arith in
    let next : (i : ℕ) → i < length es → g (suc a + i) ≡ f (get_or es i d) =
    λ i h. let at : suc a + i ≡ a + suc i = omega arith in rw at (e (suc i) (omega arith)) in
    rw (rw here at (e 0 (omega arith))) (ap (λ (l : List B). f x ∷ l) (map-count f g d (suc a) es next))

-- A list that has the same at each place.
pub map_is : (f : ℕ → ℕ) (n : ℕ) (l : List ℕ) → length l ≡ n → ((i : ℕ) → i < n → get_or l i 0 ≡ f i) → l ≡ map f (count 0 n)
map_is f n l size same =
    ext_get_or 0 l (map f (count 0 n)) (size ∙ sym (map-length f n 0)) (λ i h.
    let within : i < n = omega arith in
    let place : 0 + i ≡ i = omega arith in
    same i within ∙ sym (map_at f n 0 i within ∙ rw place refl))
