-- Document 02, #103: cases of the classes, each table one theorem, closed by computation. The policy is work-first.
use Rattle.std.specs.Prelude.{ℕ, ◌≡◌, refl, true, replicate}
use mathlib.Core.List.{List, [], ◌∷◌, ◌++◌, map, flatten}
use Rattle.rules.specs.Bytes.{count, accepted}
use Rattle.rules.specs.Tree.{kinds, classes, tree_verdict}
use Rattle.rules.specs.Scheduling.{work_first, most_workers}
use Rattle.rules.specs.Calls.{Recorded, record_call, replay_call}
use Rattle.rules.specs.Cases.{answer, bytes, of_kinds, S, seven}
use Rattle.rules.specs.NearMisses.{bad, sixteen_loads, not_recorded, said_of}

-- ---- condition 3

-- A tree of one end whose byte 1 is c.
unfoldable of_one_class : ℕ → List ℕ
of_one_class c = 3 ∷ c ∷ bytes 6 0x0000_0100_0000

-- Byte 1 is a class from 0 to 15, and each other byte is 3.
classes-accepted : map (λ c. tree_verdict (of_one_class c)) (count 0 16) ≡ replicate 16 accepted
unfolding answer bytes of_one_class
classes-accepted = refl

classes-refused : map (λ c. tree_verdict (of_one_class c)) (count 16 240) ≡ replicate 240 (bad 3 0)
unfolding answer bytes of_one_class bad
classes-refused = refl

-- A class does not stand for a kind, nor for bytes 2 and 3.
others_refused :
    map tree_verdict
    (bytes 8 0x0001_0000_0100_0000 ∷ bytes 8 0x030f_0100_0100_0000 ∷ bytes 8 0x030f_0001_0100_0000 ∷ bytes 8 0x0401_0000_0100_0000 ∷ [])
    ≡ replicate 4 (bad 3 0)
unfolding answer bytes bad
others_refused = refl

-- In one record 3 goes before 4, at a 65th open task, and before 5, after the root's end; a class of 3 leaves 4 and 5 as they are.
three-first :
    map tree_verdict
    ((of_kinds (replicate 63 2) ++ bytes 8 0x0210_0000_0100_0000)
    ∷ (of_kinds (replicate 63 2) ++ bytes 8 0x0203_0000_0100_0000)
    ∷ (of_kinds (3 ∷ []) ++ of_one_class 16)
    ∷ (of_kinds (3 ∷ []) ++ of_one_class 3)
    ∷ [])
    ≡ bad 3 63 ∷ bad 4 63 ∷ bad 3 1 ∷ bad 5 1 ∷ []
unfolding answer bytes of_kinds of_one_class bad flatten
three-first = refl

-- Start, recording and replay refuse it alike, before 6.
all_refuse : said_of most_workers work_first (of_one_class 16) ≡ replicate 3 (bad 3 0)
unfolding answer bytes of_one_class bad said_of
all_refuse = refl

-- ---- loads

-- S with the weights 1 2 4 8 16 32 64 and the classes 0 1 2 0 15 1 2.
unfoldable pub C : List ℕ
C =
    flatten
    (bytes 8 0x0100_0000_0100_0000
    ∷ bytes 8 0x0301_0000_0200_0000
    ∷ bytes 8 0x0202_0000_0400_0000
    ∷ bytes 8 0x0100_0000_0800_0000
    ∷ bytes 8 0x030f_0000_1000_0000
    ∷ bytes 8 0x0301_0000_2000_0000
    ∷ bytes 8 0x0302_0000_4000_0000
    ∷ [])

-- Its kinds, which are all that scheduling sees, are those of S.
kinds-alone : kinds C ∷ classes C ∷ [] ≡ kinds S ∷ (0 ∷ 1 ∷ 2 ∷ 0 ∷ 15 ∷ 1 ∷ 2 ∷ []) ∷ []
unfolding answer bytes of_kinds S C flatten
kinds-alone = refl

-- What the classes of C weigh.
unfoldable by_class : List ℕ
by_class = 9 ∷ 34 ∷ 68 ∷ replicate 12 0 ++ (16 ∷ [])

unfoldable recorded : List ℕ → List ℕ → Recorded
recorded tree events = record_call most_workers work_first tree events (replicate 28 7) (replicate 12 9)

-- P1: all that a recording answers.
unfoldable ten : List ℕ
ten = seven ++ bytes 6 0x0000_0101_0202

recorded-whole :
    recorded C ten
    ≡ record {
      verdict = accepted;
      log_count = 7;
      trace_count = 3;
      finished = true;
      loads = sixteen_loads (35 ∷ 28 ∷ 64 ∷ []);
      heaviest = 2;
      class_loads = by_class;
      log = bytes 28 0x0000_0000_0100_0200_0100_0300_0000_0100_0300_0500_0100_0400_0200_0600;
      trace = bytes 12 0x0100_0100_0201_0200_0001_0100;
    }
unfolding answer bytes recorded ten seven sixteen_loads by_class C flatten
recorded-whole = refl

-- Its trace: all that a replay answers.
replayed-whole :
    replay_call most_workers work_first C (bytes 12 0x0100_0100_0201_0200_0001_0100) (replicate 28 7)
    ≡ record {
      verdict = accepted;
      phase_count = 4;
      loads = sixteen_loads (35 ∷ 28 ∷ 64 ∷ []);
      heaviest = 2;
      class_loads = by_class;
      list = bytes 28 0x0000_0000_0000_0100_0100_0200_0100_0300_0100_0400_0200_0600_0300_0500;
    }
unfolding answer bytes sixteen_loads by_class C flatten
replayed-whole = refl

-- After no event worker 0's phase covers all. S is all class 0: `recorded_with_enough` of `Counts`.
recorded-loads : (recorded C []).loads ∷ (recorded C []).class_loads ∷ [] ≡ sixteen_loads (127 ∷ []) ∷ by_class ∷ []
unfolding answer bytes recorded sixteen_loads by_class C flatten
recorded-loads = refl

-- A refused recording of C.
recorded-refused : recorded C (bytes 2 0x0101) ≡ not_recorded (bad 9 0) (replicate 28 7) (replicate 12 9)
unfolding answer bytes recorded not_recorded bad sixteen_loads C flatten
recorded-refused = refl
