-- Laws of records, over their width: how many a list of bytes has, and which byte of the list a field is; and of fields of two
-- bytes. Then of the tree's records: kinds, classes and weights.
use Rattle.std.specs.Prelude.{ℕ, zero, suc, ◌+◌, ◌*◌, ◌/◌, ◌≤◌, ◌<◌, ◌≡◌, refl, List, [], ◌∷◌, map, length, take, drop, get_or}
use Rattle.std.proofs.Common.{sym, ap, ◌∙◌, mul-zero, mul-suc, arith, length-take, length-drop, drop_of_length-le, get_or-take, get_or-drop, drop-drop, drop-cons}
use Rattle.std.proofs.Math.ListN.{length-map, get_or-map, get_or-eq_default}
use Rattle.rules.specs.Bytes.{cut, records, little_endian, two_bytes}
use Rattle.rules.specs.Tree.{tree_records, kind, class, weight, kinds, classes, weights, kind_at}

-- ---- records of any width

pub length_cut : (w n : ℕ) (bytes : List ℕ) → length (cut w n bytes) ≡ n
unfolding cut
length_cut w zero bytes = refl
length_cut w (suc n) bytes = ap suc (length_cut w n (drop w bytes))

pub length-records : (w : ℕ) (bytes : List ℕ) → length (records w bytes) ≡ length bytes / w
unfolding records
length-records w bytes = length_cut w (length bytes / w) bytes

pub cut_at : (w n : ℕ) (bytes : List ℕ) (i : ℕ) → i < n → get_or (cut w n bytes) i [] ≡ take w (drop (w * i) bytes)
unfolding cut
cut_at w zero bytes i h = absurd (omega arith)
cut_at w (suc n) bytes zero h = rw mul-zero refl
cut_at w (suc n) bytes (suc i) h =
    let step : w + w * i ≡ w * suc i = omega (arith, mul-suc w i) in
    rw (cut_at w n (drop w bytes) i (omega arith), drop-drop, step) refl

-- Field j of record i is the byte at w i + j.
pub field_at : (w : ℕ) (bytes : List ℕ) (i j : ℕ) → i < length bytes / w → j < w
    → get_or (get_or (records w bytes) i []) j 0 ≡ get_or bytes (w * i + j) 0
unfolding records
field_at w bytes i j h l = rw (cut_at w (length bytes / w) bytes i h, get_or-take w (drop (w * i) bytes) j 0 l, get_or-drop) refl

-- A whole record has all its bytes.
pub length_record : (w : ℕ) (bytes : List ℕ) (i : ℕ) → i < length bytes / w → w * i + w ≤ length bytes
    → length (get_or (records w bytes) i []) ≡ w
unfolding records
length_record w bytes i h fits = rw (cut_at w (length bytes / w) bytes i h) (simp (length-take, length-drop) (omega arith))

-- The number of two bytes is the one that they were made of.
pub number_back : (x : ℕ) → x < 65536 → little_endian (two_bytes x) ≡ x
unfolding little_endian two_bytes
number_back x h = omega arith

-- ---- the tree's records

-- What the records say of the steps, one number for each; past the last it is 0.
module _ (field : List ℕ → ℕ) (tree : List ℕ) where
  length_fields : length (map field (tree_records tree)) ≡ length tree / 8
  unfolding tree_records
  length_fields = length-map (records 8 tree) field ∙ length-records 8 tree

  field_past : (i : ℕ) → length tree / 8 ≤ i → get_or (map field (tree_records tree)) i 0 ≡ 0
  field_past i h = get_or-eq_default (map field (tree_records tree)) 0 (rw length_fields h)

-- Byte j of each record.
pub byte_at : (j : ℕ) (tree : List ℕ) (i : ℕ) → j < 8 → i < length tree / 8
    → get_or (map (λ r. get_or r j 0) (tree_records tree)) i 0 ≡ get_or tree (8 * i + j) 0
unfolding tree_records
byte_at j tree i l h = get_or-map (λ (r : List ℕ). get_or r j 0) (records 8 tree) i [] ∙ field_at 8 tree i j h l

pub byte_past : (j : ℕ) (tree : List ℕ) (i : ℕ) → length tree / 8 ≤ i → get_or (map (λ r. get_or r j 0) (tree_records tree)) i 0 ≡ 0
byte_past j tree i h = field_past (λ (r : List ℕ). get_or r j 0) tree i h

pub length-kinds : (tree : List ℕ) → length (kinds tree) ≡ length tree / 8
unfolding kinds
length-kinds tree = length_fields kind tree

length-classes : (tree : List ℕ) → length (classes tree) ≡ length tree / 8
unfolding classes
length-classes tree = length_fields class tree

pub length-weights : (tree : List ℕ) → length (weights tree) ≡ length tree / 8
unfolding weights
length-weights tree = length_fields weight tree

-- Each record has a class and a weight.
pub length_paired : (tree : List ℕ) → length (classes tree) ≡ length (weights tree)
length_paired tree = length-classes tree ∙ sym (length-weights tree)

-- A step's kind is byte 0 of its record.
pub kind_at_lem : (tree : List ℕ) (i : ℕ) → i < length tree / 8 → kind_at (kinds tree) i ≡ get_or tree (8 * i) 0
unfolding kind_at kinds kind
kind_at_lem tree i h =
    let e : 8 * i + 0 ≡ 8 * i = omega arith in
    rw e at (byte_at 0 tree i (omega arith) h)

pub class_past : (tree : List ℕ) (i : ℕ) → length tree / 8 ≤ i → get_or (classes tree) i 0 ≡ 0
unfolding classes
class_past tree i h = field_past class tree i h

-- The last four of eight bytes.
last_four : (r : List ℕ) → length r ≡ 8 → drop 4 r ≡ get_or r 4 0 ∷ get_or r 5 0 ∷ get_or r 6 0 ∷ get_or r 7 0 ∷ []
last_four r e =
    rw (
      drop-cons r 4 0 (omega arith),
      drop-cons r 5 0 (omega arith),
      drop-cons r 6 0 (omega arith),
      drop-cons r 7 0 (omega arith),
      drop_of_length-le r {i = 8} (omega arith),
    ) refl

-- A step's weight is bytes 4 to 7 of its record.
pub weight-at : (tree : List ℕ) (i : ℕ) → i < length tree / 8
    → get_or (weights tree) i 0
    ≡ get_or tree (8 * i + 4) 0
    + 256 * (get_or tree (8 * i + 5) 0 + 256 * (get_or tree (8 * i + 6) 0 + 256 * get_or tree (8 * i + 7) 0))
unfolding weights tree_records weight little_endian
weight-at tree i h =
    let byte : (j : ℕ) → j < 8 → get_or (get_or (records 8 tree) i []) j 0 ≡ get_or tree (8 * i + j) 0 = λ j l. field_at 8 tree i j h l in
    let four = last_four (get_or (records 8 tree) i []) (length_record 8 tree i h (omega arith)) in
    get_or-map weight (records 8 tree) i []
    ∙ (ap little_endian four
    ∙ omega (arith, byte 4 (omega arith), byte 5 (omega arith), byte 6 (omega arith), byte 7 (omega arith)))

pub weight_past : (tree : List ℕ) (i : ℕ) → length tree / 8 ≤ i → get_or (weights tree) i 0 ≡ 0
unfolding weights
weight_past tree i h = field_past weight tree i h
