-- Document 02, #102: cases of the schedule maker, each table one theorem, closed by computation. Seeds stand in hexadecimal, where
-- the top four bits are the first of eight digits. A draw adds 9e37 79b9: from 61c8 8647, which is 1,640,531,527, it gives 0, from
-- 71c8 8647 it gives 1000 0000, and so on.
use Rattle.std.specs.Prelude.{ℕ, ◌+◌, ◌*◌, ◌≡◌, refl, true, length, replicate, take}
use mathlib.Core.List.{List, [], ◌∷◌, ◌++◌, map, flatten}
use Rattle.rules.specs.Bytes.{records, count, accepted}
use Rattle.rules.specs.Tree.{kinds}
use Rattle.rules.specs.Scheduling.{work_first, help_first}
use Rattle.rules.specs.Calls.{record_walk}
use Rattle.rules_schedule.specs.Schedules.{draw, named, Making, begun, write, drawn, robbable, steal_turn, turn, round, rounds, made}
use Rattle.rules_schedule.specs.Schedules.{most_made, Scheduled, schedule_verdict, schedule_of, schedule_refused, schedule_call}
use Rattle.rules.specs.Cases.{recording, ran, answer_with, bytes, of_kinds, S, one_end}
use Rattle.rules.specs.NearMisses.{deep_asyncs, inside, flat, bad}

-- ---- the seed

-- From the least seed, from the greatest, and around 2 to the power 32.
draws :
    map draw (0 ∷ 0xffff_ffff ∷ 0x61c8_8646 ∷ 0x61c8_8647 ∷ 0x61c8_8648 ∷ [])
    ≡ 2654435769 ∷ 2654435768 ∷ 0xffff_ffff ∷ 0 ∷ 1 ∷ []
unfolding draw
draws = refl

-- The least and the greatest seed that name each of sixteen workers. They leave no seed out, so nobody else is ever named.
victims :
    map (λ v. named (v * 0x1000_0000) ∷ named (v * 0x1000_0000 + 0x0fff_ffff) ∷ []) (count 0 16) ≡ map (λ v. v ∷ v ∷ []) (count 0 16)
unfolding named count
victims = refl

-- ---- turns

-- A list in the making on S under work-first: its run is the one that recording the events leads to.
unfoldable so_far : ℕ → List ℕ → ℕ → Making
so_far w events seed =
    record { run = (record_walk w work_first (kinds S) (records 2 events)).state; seed = seed; events = records 2 events }

-- A turn on S under work-first: how many workers there are, the events so far, the seed and whose turn it is; the event that is
-- written, if one is, and the seed afterwards.
record TurnRow : Type 0 where
  workers : ℕ
  events : List ℕ
  seed : ℕ
  who : ℕ
  wrote : List ℕ
  after : ℕ

unfoldable turn_row : ℕ → List ℕ → ℕ → ℕ → List ℕ → ℕ → TurnRow
turn_row w events seed who wrote after =
    record { workers = w; events = events; seed = seed; who = who; wrote = wrote; after = after }

unfoldable turns : List TurnRow
turns =
    -- a worker whose step may run runs it, a thief at its next turn too, and does not draw
    turn_row 4 [] 0x61c8_8647 0 (bytes 2 0x0000) 0x61c8_8647
    ∷ turn_row 4 (bytes 4 0x0000_0100) 0x61c8_8647 1 (bytes 2 0x0101) 0x61c8_8647
    -- worker 2 waits at 6 and does not draw, though the draw would name worker 1, which has 5 to steal
    ∷ turn_row 4 (bytes 10 0x0000_0100_0101_0201_0101) 0x71c8_8647 2 [] 0x71c8_8647
    -- once 3, 4 and 5 have run it runs 6
    ∷ turn_row 4 (bytes 14 0x0000_0100_0101_0201_0101_0101_0101) 0x71c8_8647 2 (bytes 2 0x0202) 0x71c8_8647
    -- an idle worker draws; worker 0 has 2 to steal and is named by 0 to 0fff ffff, not by 1000 0000
    ∷ turn_row 4 (bytes 2 0x0000) 0x61c8_8647 1 (bytes 2 0x0100) 0x0000_0000
    ∷ turn_row 4 (bytes 2 0x0000) 0x71c8_8646 3 (bytes 2 0x0300) 0x0fff_ffff
    ∷ turn_row 4 (bytes 2 0x0000) 0x71c8_8647 3 [] 0x1000_0000
    -- the turn passes where the draw names the worker itself, or one whose deque is empty, idle or not
    ∷ turn_row 4 (bytes 2 0x0000) 0x71c8_8647 1 [] 0x1000_0000
    ∷ turn_row 4 (bytes 2 0x0000) 0x81c8_8647 1 [] 0x2000_0000
    ∷ turn_row 4 (bytes 4 0x0000_0100) 0x71c8_8647 2 [] 0x1000_0000
    -- of four workers 3 is named, while 4 and 15 name nobody; of sixteen 15 is named
    ∷ turn_row 4 (bytes 6 0x0000_0300_0303) 0x91c8_8647 1 (bytes 2 0x0103) 0x3000_0000
    ∷ turn_row 4 (bytes 6 0x0000_0300_0303) 0xa1c8_8647 1 [] 0x4000_0000
    ∷ turn_row 4 (bytes 6 0x0000_0300_0303) 0x51c8_8647 1 [] 0xf000_0000
    ∷ turn_row 16 (bytes 6 0x0000_0f00_0f0f) 0x51c8_8647 1 (bytes 2 0x010f) 0xf000_0000
    -- worker 0, once its phase has ended, steals like any other
    ∷ turn_row 2 (bytes 8 0x0000_0100_0000_0101) 0x71c8_8647 0 (bytes 2 0x0001) 0x1000_0000
    ∷ []

-- The seed, and in bytes the events.
unfoldable shown : Making → List ℕ
shown m = m.seed ∷ flatten m.events

turns_as_stated :
    map (λ r. shown (turn work_first (kinds S) (so_far r.workers r.events r.seed) r.who)) turns
    ≡ map (λ r. r.after ∷ (r.events ++ r.wrote)) turns
unfolding answer_with draw named write drawn robbable steal_turn turn so_far shown turns turn_row bytes of_kinds S flatten
turns_as_stated = refl

-- ---- rounds

-- Before the first turn the run is at its start, with as many workers as the count says.
begins : map (λ w. begun w 0x61c8_8647) (count 1 16) ≡ map (λ w. so_far w [] 0x61c8_8647) (count 1 16)
unfolding answer_with begun so_far bytes of_kinds S flatten
begins = refl

-- The list made for S, work-first, with four workers, from 61c8 8647.
unfoldable of_four : List ℕ
of_four = bytes 18 0x0000_0100_0000_0101_0001_0101_0101_0101_0000

-- Seed and events after none to five rounds, in which there are 3, 2, 3, 2 and 2 draws.
round-by-round :
    map (λ k. shown (rounds 4 work_first (kinds S) k (begun 4 0x61c8_8647))) (count 0 6)
    ≡ (0x61c8_8647 ∷ [])
    ∷ (0x3c6e_f372 ∷ take 4 of_four)
    ∷ (0x78dd_e6e4 ∷ take 8 of_four)
    ∷ (0x5384_540f ∷ take 12 of_four)
    ∷ (0x8ff3_4781 ∷ take 14 of_four)
    ∷ (0xcc62_3af3 ∷ take 16 of_four)
    ∷ []
unfolding answer_with draw named begun write drawn robbable steal_turn turn round rounds shown of_four bytes of_kinds S flatten
round-by-round = refl

-- After six every step has run, and more rounds change nothing.
rounds_end :
    map (λ k. flatten (rounds 4 work_first (kinds S) k (begun 4 0x61c8_8647)).events) (6 ∷ 7 ∷ 8 ∷ 99 ∷ []) ≡ replicate 4 of_four
unfolding answer_with draw named begun write drawn robbable steal_turn turn round rounds of_four bytes of_kinds S flatten
rounds_end = refl

-- ---- lists

-- Workers, policy, tree and seed; the events made, and the trace that recording makes of them.
record ListRow : Type 0 where
  workers : ℕ
  policy : ℕ
  tree : List ℕ
  seed : ℕ
  events : List ℕ
  trace : List ℕ

unfoldable list_row : ℕ → ℕ → List ℕ → ℕ → List ℕ → List ℕ → ListRow
list_row w p tree seed events trace =
    record { workers = w; policy = p; tree = tree; seed = seed; events = events; trace = trace }

-- The list made for a row, in bytes.
unfoldable listed : ListRow → List ℕ
unfolding answer_with draw named begun write drawn robbable steal_turn turn round rounds made flatten
listed r = flatten (made r.workers r.policy (kinds r.tree) r.seed).events

unfoldable lists : List ListRow
lists =
    -- the first draw is 0, or one less: ffff ffff; both lists have ten events, the most for seven steps
    list_row 16 work_first S 0x61c8_8647 (bytes 20 0x0000_0100_0000_0101_0501_0101_0c01_0101_0c0c_0505)
    (bytes 12 0x0100_0100_0501_0200_0c01_0100)
    ∷ list_row 16 work_first S 0x61c8_8646 (bytes 20 0x0000_0e00_0000_0e0e_000e_0e0e_070e_0e0e_0707_0000)
    (bytes 12 0x0e00_0100_000e_0200_070e_0100)
    -- fewer workers: some draws name nobody
    ∷ list_row 4 work_first S 0x61c8_8647 of_four (bytes 8 0x0100_0100_0001_0200)
    ∷ list_row 8 help_first S 0x61c8_8647 (bytes 18 0x0000_0100_0000_0101_0000_0100_0000_0000_0101) (bytes 8 0x0100_0100_0100_0600)
    -- from 0, from the middle, and from the greatest seed, where worker 15 steals and is stolen from
    ∷ list_row 16 help_first S 0 (bytes 18 0x0000_0d00_0000_0d0d_0000_0500_0000_0000_0505) (bytes 8 0x0d00_0100_0500_0600)
    ∷ list_row 5 work_first S 0x8000_0000 (bytes 16 0x0000_0000_0000_0100_0000_0000_0000_0101) (bytes 4 0x0100_0200)
    ∷ list_row 16 help_first deep_asyncs 0xffff_ffff (bytes 26 0x0000_0d00_0000_0d0d_070d_0d0d_0707_0f07_0707_0f0f_020f_0f0f_0202)
    (bytes 16 0x0d00_0100_070d_0200_0f07_0300_020f_0400)
    -- worker 2 takes 6 and waits in four rounds
    ∷ list_row 8 help_first inside 0xd1a9_f48f (bytes 18 0x0000_0200_0000_0000_0000_0500_0000_0505_0202)
    (bytes 8 0x0200_0600_0500_0200)
    -- one worker runs one step a round, whatever the seed, and under help-first the root's end before step 1
    ∷ list_row 1 work_first S 0 (bytes 14 0) []
    ∷ list_row 1 help_first S 0x61c8_8647 (bytes 14 0) []
    ∷ list_row 1 help_first flat 0xffff_ffff (bytes 62 0) []
    -- the tree of one end
    ∷ list_row 16 work_first one_end 0x61c8_8647 (bytes 2 0) []
    ∷ list_row 1 help_first one_end 0xffff_ffff (bytes 2 0) []
    ∷ []

lists_as_stated : map listed lists ≡ map (λ r. r.events) lists
unfolding listed lists list_row of_four bytes of_kinds S one_end inside deep_asyncs flat flatten
lists_as_stated = refl

-- Recording accepts each of them, and every step has run.
lists-recorded :
    map (λ r. answer_with r.workers (recording r.policy r.tree (listed r))) lists ≡ map (λ r. ran true r.trace) lists
unfolding answer_with listed lists list_row of_four bytes of_kinds S one_end inside deep_asyncs flat flatten
lists-recorded = refl

-- ---- the call

-- "n + (n - 1) / 2", of 1, 3, 7 and 4,095 steps.
most_made_lem : map most_made (1 ∷ 3 ∷ 7 ∷ 4095 ∷ []) ≡ 1 ∷ 4 ∷ 10 ∷ 6142 ∷ []
unfolding most_made
most_made_lem = refl

-- So many lent bytes, no two alike: a0 a1 a2 and so on.
unfoldable lent : ℕ → List ℕ
lent size = count 0xa0 size

-- Workers, policy, tree and seed, and how many bytes are lent; what the call answers.
record CallRow : Type 0 where
  workers : ℕ
  policy : ℕ
  tree : List ℕ
  seed : ℕ
  size : ℕ
  says : Scheduled

-- An accepted call: how many events, and the lent bytes as it leaves them.
unfoldable makes : ℕ → ℕ → List ℕ → ℕ → ℕ → ℕ → List ℕ → CallRow
makes w p tree seed size events left =
    record {
      workers = w;
      policy = p;
      tree = tree;
      seed = seed;
      size = size;
      says = record { verdict = accepted; event_count = events; events = left };
    }

-- A refused call, from seed 0: the number and the position, no events, the lent bytes as they were.
unfoldable refuses : ℕ → ℕ → List ℕ → ℕ → ℕ → ℕ → CallRow
refuses w p tree size number position =
    record {
      workers = w;
      policy = p;
      tree = tree;
      seed = 0;
      size = size;
      says = record { verdict = bad number position; event_count = 0; events = lent size };
    }

unfoldable calls : List CallRow
calls =
    -- ten events fill the 20 bytes that S asks for; three bytes more keep what they held
    makes 16 work_first S 0x61c8_8647 20 10 (bytes 20 0x0000_0100_0000_0101_0501_0101_0c01_0101_0c0c_0505)
    ∷ makes 16 work_first S 0x61c8_8647 23 10 (bytes 23 0x0000_0100_0000_0101_0501_0101_0c01_0101_0c0c_0505_b4b5_b6)
    -- as do those that nine events or seven leave over
    ∷ makes 16 help_first S 0 20 9 (bytes 20 0x0000_0d00_0000_0d0d_0000_0500_0000_0000_0505_b2b3)
    ∷ makes 1 help_first S 0 20 7 (bytes 20 0x0000_0000_0000_0000_0000_0000_0000_aeaf_b0b1_b2b3)
    ∷ makes 16 work_first one_end 0 2 1 (bytes 2 0x0000)
    ∷ makes 1 help_first one_end 0xffff_ffff 3 1 (bytes 3 0x0000_a2)
    -- one byte short of the most events; too short as well where one worker's seven events would have room
    ∷ refuses 16 work_first S 19 7 0
    ∷ refuses 1 work_first one_end 1 7 0
    ∷ refuses 1 help_first S 14 7 0
    -- 1 before 16
    ∷ refuses 0 3 [] 0 1 0
    ∷ refuses 17 0 S 20 1 0
    -- 16 before 2 to 5
    ∷ refuses 0 work_first [] 0 16 0
    ∷ refuses 17 help_first (take 12 S) 0 16 0
    ∷ refuses 17 work_first (of_kinds (4 ∷ [])) 2 16 0
    ∷ refuses 255 help_first S 20 16 0
    -- 2 before 3
    ∷ refuses 16 work_first [] 0 2 0
    ∷ refuses 1 help_first (take 12 (of_kinds (4 ∷ 4 ∷ []))) 2 2 0
    -- 3, 4 and 5 before 7
    ∷ refuses 16 work_first (of_kinds (1 ∷ 4 ∷ 3 ∷ [])) 7 3 1
    ∷ refuses 16 help_first (of_kinds (replicate 64 2)) 0 4 63
    ∷ refuses 16 help_first (of_kinds (3 ∷ 3 ∷ [])) 0 5 1
    ∷ refuses 16 work_first (of_kinds (1 ∷ 3 ∷ [])) 0 5 2
    ∷ refuses 16 work_first S 0 7 0
    ∷ []

calls_as_stated :
    map (λ r. schedule_call r.workers r.policy r.tree r.seed (lent r.size)) calls ≡ map (λ r. r.says) calls
unfolding answer_with draw named begun write drawn robbable steal_turn turn round rounds made most_made schedule_verdict schedule_of
    schedule_refused schedule_call calls makes refuses lent bad bytes of_kinds S one_end flatten
calls_as_stated = refl

-- A lent list is never too long: this one has an odd byte, and room for one event more than recording reads.
lent_16387 : (es : List ℕ) → length es ≡ 16387 → schedule_verdict 16 work_first S es ≡ accepted
unfolding answer_with most_made schedule_verdict bytes of_kinds S flatten
lent_16387 es e = rw e refl
