-- Document 01, "The tree file": records, kinds, weights; the task and ordinal of a step; the step after a child's end;
-- which trees are accepted. Document 02, #103: the class of a step. Everything after acceptance speaks of the list of kinds, one for
-- each record.
use Rattle.std.specs.Prelude.{ℕ, zero, suc, pred, ◌-◌, Bool, false, cond, ◌&&◌, ◌||◌, not, List, [], ◌∷◌, map, reverse, length, take, drop, get_or, eqb, ltb}
use Rattle.std.proofs.Math.Option.{Option, none, some}
use Rattle.rules.specs.Bytes.{little_endian, records, whole_records, Verdict, refused_if, first_refused, Walked, walk}

-- ---- records

-- "Records of 8 bytes, no header, 1 to 4,095 of them."
abbrev pub most_steps : ℕ
most_steps = 4095

unfoldable pub tree_records : List ℕ → List (List ℕ)
tree_records tree = records 8 tree

-- "Byte 0 is the kind: 1 opens an async child, 2 opens a finish child, 3 ends a task."
unfoldable pub kind : List ℕ → ℕ
kind r = get_or r 0 0

unfoldable pub is_async : ℕ → Bool
is_async k = eqb k 1

unfoldable pub is_finish : ℕ → Bool
is_finish k = eqb k 2

unfoldable pub is_end : ℕ → Bool
is_end k = eqb k 3

-- "Byte 1 of a tree record becomes a class from 0 to 15": so many classes.
abbrev pub class_count : ℕ
class_count = 16

unfoldable pub class : List ℕ → ℕ
class r = get_or r 1 0

-- "Bytes 4 to 7 are the weight."
unfoldable pub weight : List ℕ → ℕ
weight r = little_endian (drop 4 r)

unfoldable pub kinds : List ℕ → List ℕ
kinds tree = map kind (tree_records tree)

unfoldable pub classes : List ℕ → List ℕ
classes tree = map class (tree_records tree)

unfoldable pub weights : List ℕ → List ℕ
weights tree = map weight (tree_records tree)

-- ---- steps, tasks, ordinals

-- "Step i is the work that ends with record i, and i is its serial number." So a step's kind is its record's.
unfoldable pub kind_at : List ℕ → ℕ → ℕ
kind_at ks i = get_or ks i 0

-- An open task: its first step, which names it, and how many children it has opened.
pub record Task : Type 0 where
  pub first : ℕ
  pub children : ℕ

-- "The root task is open before the first record."
unfoldable pub root : Task
root = record { first = 0; children = 0 }

-- The innermost of the open tasks. There is none only past the root's end, which no accepted tree has.
unfoldable pub innermost : List Task → Task
innermost [] = root
innermost (t ∷ ts) = t

-- What is left once the innermost task has ended.
unfoldable pub leave : List Task → List Task
leave [] = []
leave (t ∷ ts) = ts

-- A child opened by the innermost task, whose first step is `first`.
unfoldable pub enter : ℕ → List Task → List Task
enter first ts =
    record { first = first; children = 0 }
    ∷ record { first = (innermost ts).first; children = suc (innermost ts).children }
    ∷ leave ts

-- The tasks open after some records, innermost first. The records' kinds stand latest first.
unfoldable pub open_tasks : List ℕ → List Task
open_tasks [] = root ∷ []
open_tasks (k ∷ earlier) = cond (is_end k) (leave (open_tasks earlier)) (enter (suc (length earlier)) (open_tasks earlier))

-- "A step belongs to the task that is innermost when it runs; an opening record's step belongs to the parent."
unfoldable pub task_at : List ℕ → ℕ → Task
task_at ks i = innermost (open_tasks (reverse (take i ks)))

unfoldable pub task : List ℕ → ℕ → ℕ
task ks i = (task_at ks i).first

-- "The ordinal of a step is the number of children its task opened before it."
unfoldable pub ordinal : List ℕ → ℕ → ℕ
ordinal ks i = (task_at ks i).children

-- How many tasks are open after a record of kind k, d being open before it.
unfoldable pub open_after : ℕ → ℕ → ℕ
open_after k d = cond (is_end k) (pred d) (suc d)

-- What is left of a list of kinds once its d innermost open tasks have ended.
unfoldable pub after_ends : List ℕ → ℕ → List ℕ
after_ends [] d = []
after_ends (k ∷ ks) zero = k ∷ ks
after_ends (k ∷ ks) (suc d) = after_ends ks (open_after k (suc d))

-- The step after the end of step i's task. The steps from i up to it are those from i to the end of i's task, with all
-- that they spawn.
unfoldable pub task_end : List ℕ → ℕ → ℕ
task_end ks i = length ks - length (after_ends (drop i ks) 1)

-- "The step after the child's end", for the child that record i opens: its continuation.
unfoldable pub cont : List ℕ → ℕ → ℕ
cont ks i = task_end ks (suc i)

-- Whether the task with this first step is a finish child.
unfoldable pub finish_child : List ℕ → ℕ → Bool
finish_child ks zero = false
finish_child ks (suc opener) = is_finish (kind_at ks opener)

-- The finish child whose end stands just before step i, by its first step. An end's step belongs to the task that it ends.
unfoldable pub finish_before : List ℕ → ℕ → Option ℕ
finish_before ks zero = none
finish_before ks (suc e) = cond (is_end (kind_at ks e) && finish_child ks (task ks e)) (some (task ks e)) none

-- ---- acceptance: refusals 2 to 5

-- "At most 64 tasks are open together, the root counted."
abbrev pub most_open : ℕ
most_open = 64

-- One of the three kinds.
unfoldable pub has_kind : List ℕ → Bool
has_kind r = is_async (kind r) || is_finish (kind r) || is_end (kind r)

-- One of the kinds, one of the classes, and bytes 2 and 3 zero.
unfoldable pub well_formed : List ℕ → Bool
well_formed r = has_kind r && ltb (class r) class_count && eqb (get_or r 2 0) 0 && eqb (get_or r 3 0) 0

-- A record while d tasks are open.
--     3  "A tree record has another kind (its position)"; it "covers a class above 15 and non-zero bytes 2 and 3".
--     4  "A tree record opens a task while 64 are open (its position)."
--     5  "A record follows the root's end (its position)", the first of its two conditions.
unfoldable pub judge_tree_record : ℕ → List ℕ → ℕ
judge_tree_record d r = cond (not (well_formed r)) 3 (cond (eqb d most_open && not (is_end (kind r))) 4 (cond (eqb d 0) 5 0))

unfoldable pub next_open : ℕ → List ℕ → ℕ
next_open d r = open_after (kind r) d

-- The walk over the records, from the open root on; its state is the number of open tasks.
unfoldable pub tree_walk : List ℕ → Walked ℕ
tree_walk tree = walk judge_tree_record next_open 0 1 (tree_records tree)

--     2  "The tree is empty, not whole records, or longer than 32,760 bytes."
unfoldable pub wrong_length : List ℕ → Bool
wrong_length tree = eqb (length tree) 0 || not (whole_records 8 most_steps tree)

-- 2; then 3, 4 and 5 in one walk; then 5 where "the root is still open (position n)".
unfoldable pub tree_verdict : List ℕ → Verdict
tree_verdict tree =
    first_refused
    (refused_if (wrong_length tree) 2 0
    ∷ (tree_walk tree).verdict
    ∷ refused_if (not (eqb (tree_walk tree).state 0)) 5 (length (tree_records tree))
    ∷ [])
