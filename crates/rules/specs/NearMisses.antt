-- Cases that tell the rules from near misses which P1 to P12 let pass: document 01's "Misreadings" first, then the order of
-- refusals, the limits, lent bytes and loads. Each table is one theorem, closed by computation; the longest lists are judged by
-- their length alone.
use Rattle.std.specs.Prelude.{ℕ, ◌*◌, ◌≡◌, refl, Bool, true, false, length, replicate, take}
use mathlib.Core.List.{List, [], ◌∷◌, ◌++◌, map, flatten}
use Rattle.rules.specs.Bytes.{records, count, whole_records, Verdict, accepted}
use Rattle.rules.specs.Tree.{kinds, wrong_length, tree_verdict}
use Rattle.rules.specs.Scheduling.{work_first, help_first, most_workers, first_phases, phase_at, start}
use Rattle.rules.specs.Traces.{trace_bytes, entry_bytes, serial_allowed, next_phases}
use Rattle.rules.specs.Calls.{most_events, most_trace_records, start_verdict, event_call, after_events, Recorded, record_walk}
use Rattle.rules.specs.Calls.{record_verdict, record_call, Replayed, replay_verdict, replay_call}
use Rattle.rules.specs.Cases.{recording, replaying, idling, ran, phases, idle, refused, answer, Row, row, bytes, of_kinds}
use Rattle.rules.specs.Cases.{S, one_end}

-- ---- schedules and traces

-- Two finishes, one inside the other.
unfoldable nested : List ℕ
nested = of_kinds (2 ∷ 2 ∷ 3 ∷ 3 ∷ 3 ∷ [])

-- Two asyncs, one inside the other.
unfoldable asyncs : List ℕ
asyncs = of_kinds (1 ∷ 1 ∷ 3 ∷ 3 ∷ 3 ∷ [])

-- Four asyncs, each inside the one before.
unfoldable pub deep_asyncs : List ℕ
deep_asyncs = of_kinds (1 ∷ 1 ∷ 1 ∷ 1 ∷ 3 ∷ 3 ∷ 3 ∷ 3 ∷ 3 ∷ [])

-- Two asyncs, one inside the other, and one more in the root.
unfoldable three : List ℕ
three = of_kinds (1 ∷ 1 ∷ 3 ∷ 3 ∷ 1 ∷ 3 ∷ 3 ∷ [])

-- A finish child with two asyncs in it, one after the other.
unfoldable pub inside : List ℕ
inside = of_kinds (2 ∷ 1 ∷ 3 ∷ 1 ∷ 3 ∷ 3 ∷ 3 ∷ [])

-- An async whose only child is a finish.
unfoldable around : List ℕ
around = of_kinds (1 ∷ 2 ∷ 3 ∷ 3 ∷ 3 ∷ [])

-- Fifteen asyncs in the root, one after the other.
unfoldable pub flat : List ℕ
flat = of_kinds (flatten (replicate 15 (1 ∷ 3 ∷ [])) ++ (3 ∷ []))

-- Each other worker steals once from worker 0.
unfoldable pub all_steal : List ℕ
all_steal = flatten (map (λ w. w ∷ 0 ∷ []) (count 1 15))

-- Recordings, and idle workers.
unfoldable schedules : List Row
schedules =
    -- the steal takes the oldest step, 4, and leaves 3
    row (recording help_first nested (bytes 6 0x0000_0000_0100)) (ran false (bytes 4 0x0100_0400))
    -- an end pops the newest step, 3, and leaves 4 to steal
    ∷ row (recording help_first nested (bytes 8 0x0000_0000_0000_0100)) (ran false (bytes 4 0x0100_0400))
    -- 6 waits for 4, a descendant of the finish child, though the child's own steps 3 and 5 have run
    ∷ row (recording help_first S (bytes 16 0x0000_0000_0000_0100_0200_0300_0000_0202)) (refused 10 7)
    -- and runs once 4 has run
    ∷ row (recording help_first S (bytes 20 0x0000_0000_0000_0100_0200_0300_0000_0303_0202_0101))
    (ran true (bytes 12 0x0100_0100_0200_0600_0300_0400))
    -- worker 2 waits at 6, and is not idle: 0 and 4 to 15 are; nor may it steal
    ∷ row (idling help_first S (bytes 14 0x0000_0000_0000_0100_0200_0300_0000)) (idle false 65521 13 0)
    ∷ row (recording help_first S (bytes 16 0x0000_0000_0000_0100_0200_0300_0000_0203)) (refused 11 7)
    -- 6 waits for 2, in the first async of two, though the second and the child's own steps have run
    ∷ row (recording help_first inside (bytes 16 0x0000_0000_0000_0100_0200_0000_0000_0101)) (refused 10 7)
    -- 3 waits for 2, the only step of the inner finish child
    ∷ row (recording help_first nested (bytes 10 0x0000_0000_0100_0200_0202)) (refused 10 4)
    -- workers 0 and 1 hold a step; all sixteen do
    ∷ row (idling work_first S (bytes 4 0x0000_0100)) (idle false 65532 14 2)
    ∷ row (idling help_first flat (replicate 30 0 ++ all_steal)) (idle false 0 0 16)
    -- the step after an async child does not wait for it
    ∷ row (recording work_first S (bytes 6 0x0000_0100_0101)) (ran false (bytes 4 0x0100_0100))
    -- nor in a finish child, where worker 2 runs 3 before 2; nor does the next async, where worker 0 runs 4 before 2
    ∷ row (recording work_first inside (bytes 10 0x0000_0000_0100_0200_0202)) (ran false (bytes 8 0x0100_0100_0200_0100))
    ∷ row (recording help_first inside (bytes 10 0x0000_0000_0000_0000_0000)) (ran false [])
    -- the root's end has run, and the run has not finished
    ∷ row (recording work_first asyncs (bytes 6 0x0000_0100_0101)) (ran false (bytes 4 0x0100_0100))
    -- a thief that holds a step is refused before a victim whose deque is empty, a worker 16 before either
    ∷ row (recording work_first S (bytes 2 0x0001)) (refused 11 0)
    ∷ row (recording work_first S (bytes 2 0x0010)) (refused 8 0)
    ∷ row (recording work_first S (bytes 2 0x1010)) (refused 8 0)
    -- as is a thief or a victim far above 16; worker 15 is not
    ∷ row (recording work_first S (bytes 2 0xff00)) (refused 8 0)
    ∷ row (recording work_first S (bytes 2 0x00ff)) (refused 8 0)
    ∷ row (recording work_first S (bytes 2 0x0f0f)) (refused 9 0)
    ∷ row (recording work_first S (bytes 4 0x0000_0f00)) (ran false (bytes 4 0x0f00_0100))
    ∷ []

schedules_as_stated : map (λ r. answer r.given) schedules ≡ map (λ r. r.says) schedules
unfolding answer bytes schedules row nested asyncs inside flat all_steal of_kinds S flatten
schedules_as_stated = refl

-- Work-first traces.
unfoldable ordinals : List Row
ordinals =
    -- P1's trace replayed: the picture of document 01's listing
    row (replaying work_first S (bytes 12 0x0100_0100_0201_0200_0001_0100))
    (phases ((0 ∷ 1 ∷ []) ∷ (2 ∷ 3 ∷ 4 ∷ []) ∷ (6 ∷ []) ∷ (5 ∷ []) ∷ []))
    -- 0, 1 with its bytes exchanged, 1 with a high byte, one more than the root's children, and the frontier's next child
    ∷ row (replaying work_first S (bytes 4 0x0100_0000)) (refused 15 0)
    ∷ row (replaying work_first S (bytes 4 0x0100_0001)) (refused 15 0)
    ∷ row (replaying work_first S (bytes 4 0x0100_0101)) (refused 15 0)
    ∷ row (replaying work_first S (bytes 4 0x0100_0300)) (refused 15 0)
    ∷ row (replaying work_first S (bytes 8 0x0100_0200_0200_0100))
    (phases ((0 ∷ 1 ∷ 2 ∷ 3 ∷ 4 ∷ []) ∷ (6 ∷ []) ∷ (5 ∷ []) ∷ []))
    -- a later number counts the frontier's children: not 0, not 2, though the root has two, and 2 though the first was 1
    ∷ row (replaying work_first S (bytes 8 0x0100_0200_0200_0000)) (refused 15 1)
    ∷ row (replaying work_first S (bytes 8 0x0100_0200_0200_0200)) (refused 15 1)
    ∷ row (replaying work_first inside (bytes 8 0x0100_0100_0200_0200))
    (phases ((0 ∷ 1 ∷ 2 ∷ 3 ∷ 4 ∷ []) ∷ (6 ∷ []) ∷ (5 ∷ []) ∷ []))
    -- the first frontier of worker 2's phase is the finish child that it begins in, and not the root
    ∷ row (replaying work_first inside (bytes 12 0x0100_0100_0200_0100_0302_0200))
    (phases ((0 ∷ 1 ∷ 2 ∷ []) ∷ (6 ∷ []) ∷ (3 ∷ 4 ∷ []) ∷ (5 ∷ []) ∷ []))
    -- the frontier moves at every steal
    ∷ row (replaying work_first deep_asyncs (bytes 16 0x0100_0100_0200_0100_0300_0100_0400_0100))
    (phases ((0 ∷ 1 ∷ 2 ∷ 3 ∷ 4 ∷ []) ∷ (8 ∷ []) ∷ (7 ∷ []) ∷ (6 ∷ []) ∷ (5 ∷ []) ∷ []))
    -- equal workers are 13, with a phase, with a number that is not allowed, and without a phase
    ∷ row (replaying work_first S (bytes 4 0x0000_0100)) (refused 13 0)
    ∷ row (replaying work_first S (bytes 4 0x0000_0000)) (refused 13 0)
    ∷ row (replaying work_first S (bytes 4 0x0505_0100)) (refused 13 0)
    -- a thief, a victim or both of 16 and above are 8, and 15 is not
    ∷ row (replaying work_first S (bytes 4 0x1000_0100)) (refused 8 0)
    ∷ row (replaying work_first S (bytes 4 0x0010_0100)) (refused 8 0)
    ∷ row (replaying work_first S (bytes 4 0x1010_0100)) (refused 8 0)
    ∷ row (replaying work_first S (bytes 4 0xff00_0100)) (refused 8 0)
    ∷ row (replaying work_first S (bytes 4 0x00ff_0100)) (refused 8 0)
    ∷ row (replaying work_first S (bytes 8 0x0f00_0100_000f_0200)) (phases ((0 ∷ 1 ∷ []) ∷ (2 ∷ 3 ∷ 4 ∷ 5 ∷ []) ∷ (6 ∷ []) ∷ []))
    ∷ []

ordinals_as_stated : map (λ r. answer r.given) ordinals ≡ map (λ r. r.says) ordinals
unfolding answer bytes ordinals row inside deep_asyncs of_kinds S flatten
ordinals_as_stated = refl

-- Help-first traces.
unfoldable serials : List Row
serials =
    -- a steal is read against worker 0's latest phase, which covers step 2 alone, and not its first, which covers step 5
    row (replaying help_first three (bytes 12 0x0100_0100_0001_0200_0200_0500)) (refused 15 2)
    -- steps 1 to 3, of which 2 has been stolen, or 3; 2, which has been stolen with 1; 1 for the second time
    ∷ row (replaying help_first asyncs (bytes 8 0x0100_0200_0200_0100)) (refused 15 1)
    ∷ row (replaying help_first around (bytes 8 0x0100_0300_0200_0100)) (refused 15 1)
    ∷ row (replaying help_first asyncs (bytes 8 0x0100_0100_0200_0200)) (refused 15 1)
    ∷ row (replaying help_first S (bytes 8 0x0100_0100_0200_0100)) (refused 15 1)
    -- a phase's first step is not its own steal, whoever's phase it is
    ∷ row (replaying help_first S (bytes 8 0x0100_0100_0201_0100)) (refused 15 1)
    ∷ row (replaying help_first S (bytes 8 0x0300_0100_0203_0100)) (refused 15 1)
    -- 1 is still in the phase when 6 is not, 3 when 4 is not; 3 is in worker 3's phase, which begins with 1
    ∷ row (replaying help_first S (bytes 8 0x0100_0600_0200_0100)) (phases ((0 ∷ 2 ∷ 3 ∷ 5 ∷ 4 ∷ []) ∷ (6 ∷ []) ∷ (1 ∷ []) ∷ []))
    ∷ row (replaying help_first nested (bytes 8 0x0100_0400_0200_0300)) (phases ((0 ∷ 1 ∷ 2 ∷ []) ∷ (4 ∷ []) ∷ (3 ∷ []) ∷ []))
    ∷ row (replaying help_first deep_asyncs (bytes 8 0x0300_0100_0203_0300))
    (phases ((0 ∷ 8 ∷ []) ∷ (1 ∷ 7 ∷ 2 ∷ 6 ∷ []) ∷ (3 ∷ 5 ∷ 4 ∷ []) ∷ []))
    -- the step after an async child, step 0, a number that is no step, and 1 with a high byte
    ∷ row (replaying help_first S (bytes 4 0x0100_0200)) (refused 15 0)
    ∷ row (replaying help_first S (bytes 4 0x0100_0000)) (refused 15 0)
    ∷ row (replaying help_first S (bytes 4 0x0100_0700)) (refused 15 0)
    ∷ row (replaying help_first S (bytes 4 0x0100_0101)) (refused 15 0)
    -- in a finish child: the step after an async child, first or last, and the first step of a finish child
    ∷ row (replaying help_first inside (bytes 4 0x0100_0300)) (refused 15 0)
    ∷ row (replaying help_first inside (bytes 4 0x0100_0500)) (refused 15 0)
    ∷ row (replaying help_first nested (bytes 4 0x0100_0200)) (refused 15 0)
    -- the step after a finish child of one step
    ∷ row (replaying help_first nested (bytes 4 0x0100_0300)) (phases ((0 ∷ 1 ∷ 2 ∷ 4 ∷ []) ∷ (3 ∷ []) ∷ []))
    -- 6 does not wait for 4, which was stolen, nor is it judged that 1 and 6 are older than 4
    ∷ row (replaying help_first S (bytes 4 0x0100_0400)) (phases ((0 ∷ 2 ∷ 3 ∷ 5 ∷ 6 ∷ 1 ∷ []) ∷ (4 ∷ []) ∷ []))
    ∷ []

serials_as_stated : map (λ r. answer r.given) serials ≡ map (λ r. r.says) serials
unfolding answer bytes serials row nested asyncs deep_asyncs three inside around of_kinds S flatten
serials_as_stated = refl

-- Help-first, the number n names no step, though the last kind of this list, which is no tree, opens an async.
number_n : serial_allowed (1 ∷ []) (phase_at first_phases 0) 1 ≡ false
unfolding answer
number_n = refl

-- A number above 255 is entered whole; numbers, phases and steps above 255 are written whole.
number_258 :
    next_phases help_first [] first_phases (bytes 4 0x0100_0201)
    ≡ record { worker = 0; first = 0; stolen = 258 ∷ [] } ∷ record { worker = 1; first = 258; stolen = [] } ∷ []
unfolding answer bytes
number_258 = refl

numbers_written :
    trace_bytes help_first [] (record { thief = 5; victim = 6; step = 4094 } ∷ []) ++ entry_bytes (record { phase = 256; step = 2047 } ∷ [])
    ≡ bytes 8 0x0506_fe0f_0001_ff07
unfolding answer bytes flatten
numbers_written = refl

-- A refused event hands back the state it got, at position 0: on S, a steal from worker 0 before anything was pushed.
refused_event :
    event_call work_first (kinds S) (start most_workers) (bytes 2 0x0100)
    ≡ record { verdict = record { number = 12; position = 0 }; state = start most_workers }
unfolding answer bytes of_kinds S flatten
refused_event = refl

-- On S, after the events of P2 but the last: worker 2 waits.
waiting_event :
    let s = (record_walk most_workers work_first (kinds S) (records 2 (bytes 16 0x0000_0100_0101_0201_0101_0000_0001_0101))).state in
    event_call work_first (kinds S) s (bytes 2 0x0202) ≡ record { verdict = record { number = 10; position = 0 }; state = s }
unfolding answer bytes of_kinds S flatten
waiting_event = refl

-- On S, in turn: 12, a run, 9, a steal, 11, a run. The state is that of the three events that are not refused.
events_in_turn :
    let given = records 2 (bytes 12 0x0100_0000_0101_0100_0001_0101) in
    let kept = records 2 (bytes 6 0x0000_0100_0101) in
    map (λ p. after_events p (kinds S) (start most_workers) given) (work_first ∷ help_first ∷ [])
    ≡ map (λ p. (record_walk most_workers p (kinds S) kept).state) (work_first ∷ help_first ∷ [])
unfolding answer bytes of_kinds S flatten after_events
events_in_turn = refl

-- ---- trees

unfoldable pub bad : ℕ → ℕ → Verdict
bad number position = record { number = number; position = position }

record TreeRow : Type 0 where
  tree : List ℕ
  says : Verdict

unfoldable tree : List ℕ → Verdict → TreeRow
tree t says = record { tree = t; says = says }

-- A record whose kind is k and whose byte 2 is 1.
unfoldable unclean : ℕ → List ℕ
unclean k = k ∷ bytes 7 0x0001_0000_0000_00

-- So many finishes, one inside the other.
unfoldable deep : ℕ → List ℕ
deep n = of_kinds (replicate n 2)

unfoldable trees : List TreeRow
trees =
    tree [] (bad 2 0)
    ∷ tree (3 ∷ []) (bad 2 0)
    ∷ tree (take 12 S) (bad 2 0)
    ∷ tree (of_kinds (3 ∷ [])) accepted
    ∷ tree (of_kinds (4 ∷ [])) (bad 3 0)
    ∷ tree (of_kinds (8 ∷ [])) (bad 3 0)
    ∷ tree (of_kinds (255 ∷ [])) (bad 3 0)
    ∷ tree (of_kinds (0 ∷ [])) (bad 3 0)
    -- a weight of 0; then byte 2, byte 3
    ∷ tree (bytes 8 0x0300_0000_0000_0000) (bad 0 0)
    ∷ tree (unclean 3) (bad 3 0)
    ∷ tree (bytes 8 0x0300_0001_0000_0000) (bad 3 0)
    -- the root's end, then one record more or a second tree; 3 goes before 5 in one record
    ∷ tree (of_kinds (3 ∷ 3 ∷ [])) (bad 5 1)
    ∷ tree (of_kinds (3 ∷ 1 ∷ 3 ∷ [])) (bad 5 1)
    ∷ tree (of_kinds (3 ∷ []) ++ unclean 3) (bad 3 1)
    -- the earlier record decides, whatever the number
    ∷ tree (of_kinds (3 ∷ 3 ∷ 4 ∷ [])) (bad 5 1)
    -- the root is still open
    ∷ tree (of_kinds (1 ∷ 3 ∷ [])) (bad 5 2)
    ∷ []

trees_as_stated : map (λ t. tree_verdict t.tree) trees ≡ map (λ t. t.says) trees
unfolding answer bytes trees tree bad unclean of_kinds S flatten
trees_as_stated = refl

unfoldable deep_trees : List TreeRow
deep_trees =
    -- 64 open, ended or not; a 65th, finish or async; a 65th whose record is not well formed
    tree (deep 63 ++ of_kinds (replicate 64 3)) accepted
    ∷ tree (deep 63) (bad 5 63)
    ∷ tree (deep 64) (bad 4 63)
    ∷ tree (deep 63 ++ of_kinds (1 ∷ [])) (bad 4 63)
    ∷ tree (deep 63 ++ unclean 2) (bad 3 63)
    ∷ []

deep_trees_as_stated : map (λ t. tree_verdict t.tree) deep_trees ≡ map (λ t. t.says) deep_trees
unfolding answer bytes deep_trees tree bad unclean deep of_kinds flatten
deep_trees_as_stated = refl

-- ---- the longest lists, by their length alone

-- 4,095 tree records pass, whatever their bytes, and 4,096 do not.
steps_4095 : (t : List ℕ) → length t ≡ 32760 → wrong_length t ≡ false
unfolding answer
steps_4095 t e = rw e refl

steps_4096 : (t : List ℕ) → length t ≡ 32768 → wrong_length t ≡ true
unfolding answer
steps_4096 t e = rw e refl

-- A first record of kind 0 is refused in a tree of 4,095 records; one of 4,096 is refused for its length.
walked_4095 : (t : List ℕ) → length t ≡ 32752 → tree_verdict (replicate 8 0 ++ t) ≡ bad 3 0
unfolding answer bad
walked_4095 t e = rw e refl

walked_4096 : (t : List ℕ) → length t ≡ 32760 → tree_verdict (replicate 8 0 ++ t) ≡ bad 2 0
unfolding answer bad
walked_4096 t e = rw e refl

-- 8,192 events pass, and 8,193 do not.
events_8192 : (es : List ℕ) → length es ≡ 16384 → whole_records 2 most_events es ≡ true
unfolding answer
events_8192 es e = rw e refl

events_8193 : (es : List ℕ) → length es ≡ 16386 → whole_records 2 most_events es ≡ false
unfolding answer
events_8193 es e = rw e refl

-- 2,047 trace records pass, and 2,048 do not.
trace_2047 : (rs : List ℕ) → length rs ≡ 8188 → whole_records 4 most_trace_records rs ≡ true
unfolding answer
trace_2047 rs e = rw e refl

trace_2048 : (rs : List ℕ) → length rs ≡ 8192 → whole_records 4 most_trace_records rs ≡ false
unfolding answer
trace_2048 rs e = rw e refl

-- ---- whole calls: the order of refusals, every lent byte, loads

-- An async child of weight 2, in a root whose steps weigh 1 and 256.
unfoldable weighted : List ℕ
weighted = bytes 24 0x0100_0000_0100_0000_0300_0000_0200_0000_0300_0000_0001_0000

-- Sixteen loads, of workers or of classes, of which these are the first.
unfoldable pub sixteen_loads : List ℕ → List ℕ
sixteen_loads ls = take 16 (ls ++ replicate 16 0)

-- A record call on `weighted`: policy, events, log, trace; and what it answers.
record RecordRow : Type 0 where
  policy : ℕ
  events : List ℕ
  log : List ℕ
  trace : List ℕ
  says : Recorded

unfoldable record_row : ℕ → List ℕ → List ℕ → List ℕ → Recorded → RecordRow
record_row policy events log trace says =
    record { policy = policy; events = events; log = log; trace = trace; says = says }

-- A refused recording: the number and the position, the other answers 0, the buffers as they were.
unfoldable pub not_recorded : Verdict → List ℕ → List ℕ → Recorded
not_recorded v log trace =
    record {
      verdict = v;
      log_count = 0;
      trace_count = 0;
      finished = false;
      loads = sixteen_loads [];
      heaviest = 0;
      class_loads = sixteen_loads [];
      log = log;
      trace = trace;
    }

unfoldable record_refusal : ℕ → List ℕ → List ℕ → List ℕ → ℕ → ℕ → RecordRow
record_refusal policy events log trace number position =
    record_row policy events log trace (not_recorded (bad number position) log trace)

-- An accepted recording in which worker 5 takes step 2: how many steps have run, whether all have, and the buffers.
unfoldable record_taken : List ℕ → List ℕ → List ℕ → ℕ → Bool → List ℕ → List ℕ → RecordRow
record_taken events log trace steps whole log' trace' =
    record_row work_first events log trace
    (record {
      verdict = accepted;
      log_count = steps;
      trace_count = 1;
      finished = whole;
      loads = sixteen_loads (3 ∷ 0 ∷ 0 ∷ 0 ∷ 0 ∷ 256 ∷ []);
      heaviest = 5;
      class_loads = sixteen_loads (259 ∷ []);
      log = log';
      trace = trace';
    })

unfoldable recordings : List RecordRow
recordings =
    -- buffers one byte longer than asked; worker 5 has not run its step, and its load counts
    record_taken (bytes 6 0x0000_0500_0000) (replicate 13 7) (replicate 5 9) 2 false (bytes 13 0x0000_0000_0000_0100_0707_0707_07)
    (bytes 5 0x0500_0100_09)
    -- worker 5 runs its step too: finished
    ∷ record_taken (bytes 8 0x0000_0500_0000_0505) (replicate 12 7) (replicate 4 9) 3 true (bytes 12 0x0000_0000_0000_0100_0100_0200)
    (bytes 4 0x0500_0100)
    -- 1 before 6, 6 before 7, 7 for either buffer, however long the other, 7 before 9
    ∷ record_refusal 3 (bytes 1 0x00) [] [] 1 0
    ∷ record_refusal 0 [] (replicate 12 7) (replicate 4 9) 1 0
    ∷ record_refusal help_first (bytes 1 0x00) (replicate 11 7) (replicate 4 9) 6 0
    ∷ record_refusal help_first (bytes 2 0x0101) (replicate 11 7) (replicate 4 9) 7 0
    ∷ record_refusal help_first (bytes 2 0x0101) (replicate 12 7) (replicate 3 9) 7 0
    ∷ record_refusal help_first (bytes 2 0x0101) (replicate 11 7) (replicate 5 9) 7 0
    ∷ record_refusal help_first (bytes 2 0x0101) (replicate 13 7) (replicate 3 9) 7 0
    -- a refusal after an accepted event leaves the buffers as they were
    ∷ record_refusal help_first (bytes 4 0x0000_0101) (replicate 12 7) (replicate 4 9) 9 1
    ∷ []

recordings_as_stated :
    map (λ r. record_call most_workers r.policy weighted r.events r.log r.trace) recordings ≡ map (λ r. r.says) recordings
unfolding answer bytes recordings record_row not_recorded record_refusal record_taken weighted sixteen_loads bad
recordings_as_stated = refl

-- A replay call under work-first on a tree: trace, list; and what it answers.
record ReplayRow : Type 0 where
  tree : List ℕ
  trace : List ℕ
  list : List ℕ
  says : Replayed

-- A refused replay: the number and the position, the other answers 0, the list as it was.
unfoldable pub not_replayed : Verdict → List ℕ → Replayed
not_replayed v list =
    record {
      verdict = v;
      phase_count = 0;
      loads = sixteen_loads [];
      heaviest = 0;
      class_loads = sixteen_loads [];
      list = list;
    }

unfoldable replays : List ReplayRow
replays =
    -- a list one byte longer than asked; worker 1 has taken step 2
    record {
      tree = weighted;
      trace = bytes 4 0x0100_0100;
      list = replicate 13 7;
      says =
          record {
            verdict = accepted;
            phase_count = 2;
            loads = sixteen_loads (3 ∷ 256 ∷ []);
            heaviest = 1;
            class_loads = sixteen_loads (259 ∷ []);
            list = bytes 13 0x0000_0000_0000_0100_0100_0200_07;
          };
    }
    -- equal loads: the lower worker is the heaviest
    ∷ record {
      tree = of_kinds (1 ∷ 3 ∷ 1 ∷ 3 ∷ 3 ∷ []);
      trace = bytes 8 0x0200_0100_0102_0200;
      list = replicate 20 7;
      says =
          record {
            verdict = accepted;
            phase_count = 3;
            loads = sixteen_loads (2 ∷ 1 ∷ 2 ∷ []);
            heaviest = 0;
            class_loads = sixteen_loads (5 ∷ []);
            list = bytes 20 0x0000_0000_0000_0100_0100_0200_0100_0300_0200_0400;
          };
    }
    -- no weight at all: the lowest worker is the heaviest
    ∷ record {
      tree = bytes 8 0x0300_0000_0000_0000;
      trace = [];
      list = replicate 4 7;
      says =
          record {
            verdict = accepted;
            phase_count = 1;
            loads = sixteen_loads [];
            heaviest = 0;
            class_loads = sixteen_loads [];
            list = bytes 4 0x0000_0000;
          };
    }
    -- weights of four bytes, and a load of more
    ∷ record {
      tree = bytes 24 0x0100_0000_ffff_ffff_0300_0000_ffff_ffff_0300_0000_0403_0201;
      trace = [];
      list = replicate 12 7;
      says =
          record {
            verdict = accepted;
            phase_count = 1;
            loads = sixteen_loads (8606843650 ∷ []);
            heaviest = 0;
            class_loads = sixteen_loads (8606843650 ∷ []);
            list = bytes 12 0x0000_0000_0000_0100_0000_0200;
          };
    }
    -- a tree whose root is still open, before a trace of three bytes
    ∷ record {
      tree = take 16 weighted;
      trace = bytes 3 0x0100_01;
      list = replicate 11 7;
      says = not_replayed (bad 5 2) (replicate 11 7);
    }
    -- a trace of three bytes, before a list one byte short
    ∷ record {
      tree = weighted;
      trace = bytes 3 0x0100_01;
      list = replicate 11 7;
      says = not_replayed (bad 6 0) (replicate 11 7);
    }
    -- a list one byte short
    ∷ record {
      tree = weighted;
      trace = bytes 4 0x1010_0100;
      list = replicate 11 7;
      says = not_replayed (bad 7 0) (replicate 11 7);
    }
    ∷ []

replays_as_stated : map (λ r. replay_call most_workers work_first r.tree r.trace r.list) replays ≡ map (λ r. r.says) replays
unfolding answer bytes replays weighted sixteen_loads not_replayed bad of_kinds flatten
replays_as_stated = refl

-- A policy that is none.
replays_of_no_policy :
    map (λ p. replay_call most_workers p weighted [] (replicate 12 7)) (0 ∷ 3 ∷ [])
    ≡ replicate 2 (not_replayed (bad 1 0) (replicate 12 7))
unfolding answer bytes weighted sixteen_loads not_replayed bad
replays_of_no_policy = refl

-- ---- whole calls: the phase that a steal is entered in, and the steps that a phase covers

-- Three asyncs in the root, one after the other.
unfoldable apart : List ℕ
apart = of_kinds (1 ∷ 3 ∷ 1 ∷ 3 ∷ 1 ∷ 3 ∷ 3 ∷ [])

-- A finished recording of a tree of seven records, with its log and trace; the run list of that trace; the loads of both.
record PhasesRow : Type 0 where
  policy : ℕ
  tree : List ℕ
  events : List ℕ
  log : List ℕ
  trace : List ℕ
  list : List ℕ
  loads : List ℕ

unfoldable recorded_of : PhasesRow → List (List ℕ)
recorded_of r =
    let c = record_call most_workers r.policy r.tree r.events (replicate 28 7) (replicate 12 9) in
    c.log ∷ take (4 * c.trace_count) c.trace ∷ c.loads ∷ []

unfoldable replayed_of : PhasesRow → List (List ℕ)
replayed_of r = let c = replay_call most_workers r.policy r.tree r.trace (replicate 28 7) in c.list ∷ c.loads ∷ []

unfoldable stolen_phases : List PhasesRow
stolen_phases =
    -- P1: the second and the third steal are from phase 1, the third by worker 0, which has had phase 0
    record {
      policy = work_first;
      tree = S;
      events = bytes 20 0x0000_0100_0101_0201_0101_0000_0001_0000_0101_0202;
      log = bytes 28 0x0000_0000_0100_0200_0100_0300_0000_0100_0300_0500_0100_0400_0200_0600;
      trace = bytes 12 0x0100_0100_0201_0200_0001_0100;
      list = bytes 28 0x0000_0000_0000_0100_0100_0200_0100_0300_0100_0400_0200_0600_0300_0500;
      loads = 3 ∷ 3 ∷ 1 ∷ [];
    }
    -- the third steal is from phase 2, worker 0's second
    ∷ record {
      policy = work_first;
      tree = apart;
      events = bytes 20 0x0000_0100_0000_0101_0001_0000_0200_0101_0000_0202;
      log = bytes 28 0x0000_0000_0000_0100_0100_0200_0200_0400_0100_0300_0200_0500_0300_0600;
      trace = bytes 12 0x0100_0100_0001_0200_0200_0300;
      list = bytes 28 0x0000_0000_0000_0100_0100_0200_0100_0300_0200_0400_0200_0500_0300_0600;
      loads = 4 ∷ 2 ∷ 1 ∷ [];
    }
    -- P4: phase 1 ends long before the tree does
    ∷ record {
      policy = help_first;
      tree = S;
      events = bytes 18 0x0000_0100_0000_0200_0101_0000_0000_0000_0202;
      log = bytes 28 0x0000_0000_0000_0200_0100_0100_0000_0300_0000_0500_0000_0400_0200_0600;
      trace = bytes 8 0x0100_0100_0200_0600;
      list = bytes 28 0x0000_0000_0000_0200_0000_0300_0000_0500_0000_0400_0100_0100_0200_0600;
      loads = 5 ∷ 1 ∷ 1 ∷ [];
    }
    ∷ []

phases-recorded : map recorded_of stolen_phases ≡ map (λ r. r.log ∷ r.trace ∷ sixteen_loads r.loads ∷ []) stolen_phases
unfolding answer bytes stolen_phases recorded_of apart sixteen_loads of_kinds S flatten
phases-recorded = refl

phases-replayed : map replayed_of stolen_phases ≡ map (λ r. r.list ∷ sixteen_loads r.loads ∷ []) stolen_phases
unfolding answer bytes stolen_phases replayed_of apart sixteen_loads of_kinds S flatten
phases-replayed = refl

-- ---- whole calls: the longest lists, by their length alone

-- What start, recording and replay say of a count, a policy and a tree, where the events or the trace have one byte and the
-- buffers none.
unfoldable pub said_of : ℕ → ℕ → List ℕ → List Verdict
said_of w p t = start_verdict w p t ∷ record_verdict w p t (0 ∷ []) [] [] ∷ replay_verdict w p t (0 ∷ []) [] ∷ []

-- As the tree's own verdict, with 4,095 records and with 4,096.
said_of_4095 : (t : List ℕ) → length t ≡ 32752 → said_of most_workers work_first (replicate 8 0 ++ t) ≡ replicate 3 (bad 3 0)
unfolding answer bad said_of
said_of_4095 t e = rw e refl

said_of_4096 : (t : List ℕ) → length t ≡ 32760 → said_of most_workers work_first (replicate 8 0 ++ t) ≡ replicate 3 (bad 2 0)
unfolding answer bad said_of
said_of_4096 t e = rw e refl

-- 8,192 events are refused for a log of no bytes alone; 8,193, and half an event less than 8,192, for themselves.
recorded_8192 : (es : List ℕ) → length es ≡ 16384 → record_verdict most_workers help_first one_end es [] [] ≡ bad 7 0
unfolding answer bad bytes of_kinds one_end flatten
recorded_8192 es e = rw e refl

recorded_8193 : (es : List ℕ) → length es ≡ 16386 → record_verdict most_workers help_first one_end es [] [] ≡ bad 6 0
unfolding answer bad bytes of_kinds one_end flatten
recorded_8193 es e = rw e refl

recorded_half : (es : List ℕ) → length es ≡ 16383 → record_verdict most_workers help_first one_end es [] [] ≡ bad 6 0
unfolding answer bad bytes of_kinds one_end flatten
recorded_half es e = rw e refl

-- 2,047 trace records are refused for a run list of no bytes alone; 2,048, and half a record less than 2,047, for themselves.
replayed_2047 : (rs : List ℕ) → length rs ≡ 8188 → replay_verdict most_workers help_first one_end rs [] ≡ bad 7 0
unfolding answer bad bytes of_kinds one_end flatten
replayed_2047 rs e = rw e refl

replayed_2048 : (rs : List ℕ) → length rs ≡ 8192 → replay_verdict most_workers help_first one_end rs [] ≡ bad 6 0
unfolding answer bad bytes of_kinds one_end flatten
replayed_2048 rs e = rw e refl

replayed_half : (rs : List ℕ) → length rs ≡ 8186 → replay_verdict most_workers help_first one_end rs [] ≡ bad 6 0
unfolding answer bad bytes of_kinds one_end flatten
replayed_half rs e = rw e refl
