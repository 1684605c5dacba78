-- Document 01, program `phases`: what it prints, byte for byte, for the bytes that it reads.
use Rattle.std.specs.Prelude.{ℕ, zero, suc, ◌+◌, ◌*◌, ◌/◌, ◌%◌, cond, length, take, drop, get_or, replicate, eqb, ltb}
use mathlib.Core.List.{List, [], ◌∷◌, ◌++◌, map, flatten}
use Rattle.rules.specs.Bytes.{records, Verdict}
use Rattle.rules.specs.Tree.{kinds}
use Rattle.rules.specs.Scheduling.{most_workers, Phase, phase_at, Entry}
use Rattle.rules.specs.Traces.{replay_walk, run_list}
use Rattle.rules.specs.Calls.{replay_verdict}

-- "Reads the first 49,152 bytes of standard input." That a text depends on no further byte is proved of `phases_text::list_phases`.
-- That the program hands it standard input from its start, up to so many bytes or to its end, no contract can say: it is tested
-- (`tests/tests/program.rs`).
abbrev pub most_input : ℕ
most_input = 49152

-- "Policy (1 byte), n (2 bytes), the tree (8 × n bytes or what there is), then the trace. Missing policy or count bytes read as
-- 0."
unfoldable pub input_policy : List ℕ → ℕ
input_policy input = get_or input 0 0

unfoldable pub input_count : List ℕ → ℕ
input_count input = get_or input 1 0 + 256 * get_or input 2 0

unfoldable pub input_tree : List ℕ → List ℕ
input_tree input = take (8 * input_count input) (drop 3 input)

unfoldable pub input_trace : List ℕ → List ℕ
input_trace input = drop (8 * input_count input) (drop 3 input)

-- A number in decimal digits, as ASCII; at most m of them.
unfoldable pub digits : ℕ → ℕ → List ℕ
digits zero x = []
digits (suc m) x = cond (ltb x 10) ((48 + x) ∷ []) (digits m (x / 10) ++ ((48 + x % 10) ∷ []))

-- No number that is printed has more than five.
unfoldable pub decimal : ℕ → List ℕ
decimal x = digits 5 x

-- Numbers with spaces between them, and a line feed.
unfoldable pub line : List ℕ → List ℕ
line [] = 10 ∷ []
line (x ∷ []) = decimal x ++ (10 ∷ [])
line (x ∷ y ∷ xs) = decimal x ++ (32 ∷ line (y ∷ xs))

-- "phase worker step", and a line feed.
unfoldable pub heading : List ℕ
heading = 112 ∷ 104 ∷ 97 ∷ 115 ∷ 101 ∷ 32 ∷ 119 ∷ 111 ∷ 114 ∷ 107 ∷ 101 ∷ 114 ∷ 32 ∷ 115 ∷ 116 ∷ 101 ∷ 112 ∷ 10 ∷ []

-- "Phase, worker and step on each line."
unfoldable pub phase_lines : List Phase → List Entry → List ℕ
phase_lines phs entries = flatten (map (λ e. line (e.phase ∷ (phase_at phs e.phase).worker ∷ e.step ∷ [])) entries)

-- "A refusal prints only `refused`, number, position, with spaces."
unfoldable pub refused_line : Verdict → List ℕ
refused_line v = 114 ∷ 101 ∷ 102 ∷ 117 ∷ 115 ∷ 101 ∷ 100 ∷ 32 ∷ line (v.number ∷ v.position ∷ [])

-- What it prints for the bytes that it reads. "The program `phases` uses 16" workers. Its own run list is never short.
unfoldable pub phases_text : List ℕ → List ℕ
phases_text input =
    let p = input_policy input in
    let tree = input_tree input in
    let refusal = replay_verdict most_workers p tree (input_trace input) (replicate (4 * length (kinds tree)) 0) in
    let phs = (replay_walk most_workers p (kinds tree) (records 4 (input_trace input))).state in
    let lines = phase_lines phs (run_list p (kinds tree) phs) in
    cond (eqb refusal.number 0) (heading ++ lines) (refused_line refusal)

-- What it prints for all that standard input holds.
unfoldable pub printed : List ℕ → List ℕ
printed input = phases_text (take most_input input)
