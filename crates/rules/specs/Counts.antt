-- Document 02, #101: cases of the run's own count of workers, each table one theorem, closed by computation. Where a case does not
-- need help-first the policy is work-first.
use Rattle.std.specs.Prelude.{ℕ, ◌-◌, ◌*◌, ◌≡◌, refl, true, false, length, replicate, take}
use mathlib.Core.List.{List, [], ◌∷◌, ◌++◌, map, flatten}
use Rattle.rules.specs.Bytes.{records, count, accepted}
use Rattle.rules.specs.Tree.{kinds}
use Rattle.rules.specs.Scheduling.{work_first, help_first, start}
use Rattle.rules.specs.Calls.{start_verdict, event_call, after_events, Recorded, record_call, Replayed, replay_call}
use Rattle.rules.specs.Cases.{Case, recording, replaying, idling, Answer, ran, phases, idle, refused, answer_with, bytes}
use Rattle.rules.specs.Cases.{of_kinds, S, one_end, seven}
use Rattle.rules.specs.NearMisses.{flat, all_steal, bad, sixteen_loads, not_recorded, not_replayed, said_of}

-- ---- the count's own refusal

-- On S each count from 1 to 16 is accepted, and each other byte gives 16 at 0.
counts_accepted : map (λ w. start_verdict w work_first S) (count 1 16) ≡ replicate 16 accepted
unfolding answer_with bytes of_kinds S flatten
counts_accepted = refl

counts_refused : map (λ w. start_verdict w work_first S) (0 ∷ count 17 239) ≡ replicate 240 (bad 16 0)
unfolding answer_with bytes of_kinds S flatten bad
counts_refused = refl

-- Count, policy and tree: start, recording and replay say 1 before 16,
one-first : flatten (said_of 0 3 [] ∷ said_of 17 0 S ∷ said_of 4 3 S ∷ []) ≡ replicate 9 (bad 1 0)
unfolding answer_with bytes bad said_of of_kinds S flatten
one-first = refl

-- 16 before 2, 3 and 5, and before 6 and 7,
sixteen_next :
    flatten
    (said_of 0 work_first []
    ∷ said_of 17 help_first (take 12 S)
    ∷ said_of 0 help_first (of_kinds (4 ∷ []))
    ∷ said_of 17 work_first (take 40 S)
    ∷ said_of 255 help_first S
    ∷ [])
    ≡ replicate 15 (bad 16 0)
unfolding answer_with bytes bad said_of of_kinds S flatten
sixteen_next = refl

-- and 2 once the count is in order.
then_the_tree : flatten (said_of 16 work_first [] ∷ said_of 1 help_first (take 12 S) ∷ []) ≡ replicate 6 (bad 2 0)
unfolding answer_with bytes bad said_of of_kinds S flatten
then_the_tree = refl

-- ---- whole calls: every lent byte, and sixteen loads

-- P1 and its trace, with lent buffers one byte longer than asked.
unfoldable ten : List ℕ
ten = seven ++ bytes 6 0x0000_0101_0202

unfoldable three_steals : List ℕ
three_steals = bytes 12 0x0100_0100_0201_0200_0001_0100

unfoldable recorded : ℕ → Recorded
recorded w = record_call w work_first S ten (replicate 29 7) (replicate 13 9)

unfoldable replayed : ℕ → Replayed
replayed w = replay_call w work_first S three_steals (replicate 29 7)

-- They name workers 0 to 2.
recorded_with_enough :
    map recorded (3 ∷ 16 ∷ [])
    ≡ replicate 2
    (record {
      verdict = accepted;
      log_count = 7;
      trace_count = 3;
      finished = true;
      loads = sixteen_loads (3 ∷ 3 ∷ 1 ∷ []);
      heaviest = 0;
      class_loads = sixteen_loads (7 ∷ []);
      log = bytes 29 0x0000_0000_0100_0200_0100_0300_0000_0100_0300_0500_0100_0400_0200_0600_07;
      trace = three_steals ++ (9 ∷ []);
    })
unfolding answer_with bytes recorded ten three_steals seven sixteen_loads of_kinds S flatten
recorded_with_enough = refl

replayed_with_enough :
    map replayed (3 ∷ 16 ∷ [])
    ≡ replicate 2
    (record {
      verdict = accepted;
      phase_count = 4;
      loads = sixteen_loads (3 ∷ 3 ∷ 1 ∷ []);
      heaviest = 0;
      class_loads = sixteen_loads (7 ∷ []);
      list = bytes 29 0x0000_0000_0000_0100_0100_0200_0100_0300_0100_0400_0200_0600_0300_0500_07;
    })
unfolding answer_with bytes replayed three_steals sixteen_loads of_kinds S flatten
replayed_with_enough = refl

recorded_with_others :
    map recorded (2 ∷ 1 ∷ 0 ∷ 17 ∷ 255 ∷ [])
    ≡ map (λ v. not_recorded v (replicate 29 7) (replicate 13 9)) (bad 8 3 ∷ bad 8 1 ∷ replicate 3 (bad 16 0))
unfolding answer_with bytes recorded ten seven sixteen_loads not_recorded bad of_kinds S flatten
recorded_with_others = refl

replayed_with_others :
    map replayed (2 ∷ 1 ∷ 0 ∷ 17 ∷ 255 ∷ [])
    ≡ map (λ v. not_replayed v (replicate 29 7))
    (bad 8 1 ∷ bad 8 0 ∷ replicate 3 (bad 16 0))
unfolding answer_with bytes replayed three_steals sixteen_loads not_replayed bad of_kinds S flatten
replayed_with_others = refl

-- Help-first, worker 0 alone: the steps 0 2 3 5 4 6 1.
recorded-alone :
    (record_call 1 help_first S (replicate 14 0) (replicate 28 7) (replicate 12 9)).log
    ≡ bytes 28 0x0000_0000_0000_0200_0000_0300_0000_0500_0000_0400_0000_0600_0000_0100
unfolding answer_with bytes of_kinds S flatten
recorded-alone = refl

-- ---- single events

-- Each on S from the start with four workers, and refused: a run, a thief, a victim.
events_of_four :
    map (λ e. event_call work_first (kinds S) (start 4) e) (records 2 (bytes 12 0x0404_0303_0400_0300_0004_0003))
    ≡ map (λ n. record { verdict = bad n 0; state = start 4 }) (8 ∷ 9 ∷ 8 ∷ 12 ∷ 8 ∷ 11 ∷ [])
unfolding answer_with bytes bad of_kinds S flatten
events_of_four = refl

-- The run keeps its count of three: after no event, a refused one and each of P1's.
count_kept :
    map (λ n. length (after_events work_first (kinds S) (start 3) (take n (records 2 (bytes 2 0x0303 ++ ten)))).workers) (count 0 12)
    ≡ replicate 12 3
unfolding answer_with bytes ten seven after_events of_kinds S flatten
count_kept = refl

-- ---- cases

record CountRow : Type 0 where
  workers : ℕ
  given : Case
  says : Answer

unfoldable row : ℕ → Case → Answer → CountRow
row w c a = record { workers = w; given = c; says = a }

unfoldable table : List CountRow
table =
    -- of four workers, a run of 4 is 8 and not 9; a thief 8 and not 12, a victim 8 and not 11, also far above 4
    row 4 (recording work_first S (bytes 2 0x0404)) (refused 8 0)
    ∷ row 4 (recording work_first S (bytes 2 0x0303)) (refused 9 0)
    ∷ row 4 (recording work_first S (bytes 2 0x0f00)) (refused 8 0)
    ∷ row 4 (recording work_first S (bytes 2 0x000f)) (refused 8 0)
    -- once there is a step to steal, 3 takes it and 4 does not
    ∷ row 4 (recording help_first S (bytes 4 0x0000_0300)) (ran false (bytes 4 0x0300_0100))
    ∷ row 4 (recording help_first S (bytes 4 0x0000_0400)) (refused 8 1)
    -- of one worker, it runs all; any steal is 8
    ∷ row 1 (recording help_first S (replicate 14 0)) (ran true [])
    ∷ row 1 (recording work_first S (replicate 14 0)) (ran true [])
    ∷ row 1 (recording help_first S (bytes 4 0x0000_0100)) (refused 8 1)
    ∷ row 1 (recording work_first S (bytes 2 0x0001)) (refused 8 0)
    -- replay with worker 12
    ∷ row 4 (replaying work_first S (bytes 4 0x0c00_0100)) (refused 8 0)
    ∷ row 12 (replaying help_first S (bytes 4 0x0c00_0100)) (refused 8 0)
    ∷ row 13 (replaying work_first S (bytes 4 0x0c00_0100)) (phases ((0 ∷ 1 ∷ []) ∷ (2 ∷ 3 ∷ 4 ∷ 5 ∷ 6 ∷ []) ∷ []))
    -- 4 twice is 8 and not 13, a victim 8 and not 14, also far above 4, a thief 8 and not 15
    ∷ row 4 (replaying work_first S (bytes 4 0x0404_0100)) (refused 8 0)
    ∷ row 4 (replaying work_first S (bytes 4 0x0303_0100)) (refused 13 0)
    ∷ row 4 (replaying work_first S (bytes 4 0x0204_0100)) (refused 8 0)
    ∷ row 4 (replaying help_first S (bytes 4 0x000f_0100)) (refused 8 0)
    ∷ row 4 (replaying work_first S (bytes 4 0x0203_0100)) (refused 14 0)
    ∷ row 4 (replaying work_first S (bytes 4 0x0400_0000)) (refused 8 0)
    ∷ row 4 (replaying work_first S (bytes 4 0x0300_0000)) (refused 15 0)
    -- of one worker, 00 00 is 13 and the others are 8
    ∷ row 1 (replaying work_first S (bytes 4 0x0000_0100)) (refused 13 0)
    ∷ row 1 (replaying work_first S (bytes 4 0x0001_0100)) (refused 8 0)
    ∷ row 1 (replaying work_first S (bytes 4 0x0101_0100)) (refused 8 0)
    -- idle after the start, and after events
    ∷ row 16 (idling work_first S []) (idle false 65534 15 1)
    ∷ row 15 (idling work_first S []) (idle false 32766 14 1)
    ∷ row 4 (idling work_first S []) (idle false 14 3 1)
    ∷ row 1 (idling work_first S []) (idle false 0 0 16)
    ∷ row 3 (idling work_first S (bytes 4 0x0000_0100)) (idle false 4 1 2)
    ∷ row 2 (idling work_first S (bytes 4 0x0000_0100)) (idle false 0 0 16)
    ∷ row 4 (idling work_first one_end (bytes 2 0x0000)) (idle true 15 4 0)
    ∷ []

answered_as_stated : map (λ r. answer_with r.workers r.given) table ≡ map (λ r. r.says) table
unfolding answer_with bytes table row of_kinds S one_end flatten
answered_as_stated = refl

-- Whatever the count, the lowest is 16 where all hold a step: worker 0 pushes 15, and each other worker takes one.
none_idle :
    map (λ w. answer_with w (idling help_first flat (replicate 30 0 ++ take (2 * (w - 1)) all_steal))) (count 1 16)
    ≡ replicate 16 (idle false 0 0 16)
unfolding answer_with flat all_steal bytes of_kinds flatten
none_idle = refl
