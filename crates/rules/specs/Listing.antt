-- Document 01's worked example of program `phases`, and refusals that it prints, one theorem closed by computation; numbers of
-- one to five digits, another.
use Rattle.std.specs.Prelude.{ℕ, ◌≡◌, refl, take}
use mathlib.Core.List.{List, [], ◌∷◌, ◌++◌, map, flatten}
use Rattle.rules.specs.Program.{input_policy, input_count, input_tree, input_trace, digits, decimal, line, heading, phase_lines}
use Rattle.rules.specs.Program.{refused_line, phases_text, printed}
use Rattle.rules.specs.Cases.{answer, bytes, of_kinds, S, one_end}
use Rattle.rules.specs.Classes.{C}

-- Policy and n in front of a tree and a trace.
unfoldable fed : List ℕ → List ℕ → List ℕ → List ℕ
fed head tree trace = head ++ (tree ++ trace)

-- "For 01 07 00, S and P1's trace", and so for C, which has classes. Then help-first, where worker 15 takes the only child; one record
-- where n is 256; P8 and P12; worker 16; an empty input, one that breaks off within the count, and S cut to five records.
unfoldable inputs : List (List ℕ)
inputs =
    fed (bytes 3 0x01_0700) S (bytes 12 0x0100_0100_0201_0200_0001_0100)
    ∷ fed (bytes 3 0x01_0700) C (bytes 12 0x0100_0100_0201_0200_0001_0100)
    ∷ fed (bytes 3 0x02_0300) (of_kinds (1 ∷ 3 ∷ 3 ∷ [])) (bytes 4 0x0f00_0100)
    ∷ fed (bytes 3 0x01_0001) one_end []
    ∷ fed (bytes 3 0x01_0700) S (bytes 8 0x0100_0100_0201_0100)
    ∷ fed (bytes 3 0x02_0700) S (bytes 4 0x0001_0100)
    ∷ fed (bytes 3 0x01_0700) S (bytes 4 0x1000_0100)
    ∷ []
    ∷ bytes 2 0x01_07
    ∷ fed (bytes 3 0x01_0500) (take 40 S) []
    ∷ []

-- In ASCII: the heading and seven lines, three to a numeral.
unfoldable seven_lines : List ℕ
seven_lines =
    flatten
    (bytes 18 0x7068_6173_6520_776f_726b_6572_2073_7465_700a
    ∷ bytes 18 0x3020_3020_300a_3020_3020_310a_3120_3120_320a
    ∷ bytes 18 0x3120_3120_330a_3120_3120_340a_3220_3220_360a
    ∷ bytes 6 0x3320_3020_350a
    ∷ [])

-- That twice; the heading and three lines; the heading and one line; then `refused 15 1`, `refused 14 0`, `refused 8 0`,
-- `refused 1 0`, `refused 2 0`, `refused 5 5`.
unfoldable texts : List (List ℕ)
texts =
    seven_lines
    ∷ seven_lines
    ∷ (bytes 18 0x7068_6173_6520_776f_726b_6572_2073_7465_700a ++ bytes 19 0x3020_3020_300a_3020_3020_320a_3120_3135_2031_0a)
    ∷ (bytes 18 0x7068_6173_6520_776f_726b_6572_2073_7465_700a ++ bytes 6 0x3020_3020_300a)
    ∷ bytes 13 0x7265_6675_7365_6420_3135_2031_0a
    ∷ bytes 13 0x7265_6675_7365_6420_3134_2030_0a
    ∷ bytes 12 0x7265_6675_7365_6420_3820_300a
    ∷ bytes 12 0x7265_6675_7365_6420_3120_300a
    ∷ bytes 12 0x7265_6675_7365_6420_3220_300a
    ∷ bytes 12 0x7265_6675_7365_6420_3520_350a
    ∷ []

printed_as_shown : map printed inputs ≡ texts
unfolding answer bytes of_kinds S C one_end fed inputs seven_lines texts input_policy input_count input_tree input_trace digits decimal
    line heading phase_lines refused_line phases_text printed flatten
printed_as_shown = refl

-- A count of two bytes.
count_258 : input_count (bytes 3 0x01_0201) ≡ 258
unfolding bytes input_count
count_258 = refl

-- Of an input it reads the first 49,152 bytes.
printed_of_longer : (input : List ℕ) → printed input ≡ phases_text (take 49152 input)
unfolding printed
printed_of_longer input = refl

-- Numbers of one to five digits, in ASCII.
numbers_as_shown :
    map decimal (0 ∷ 9 ∷ 10 ∷ 98 ∷ 100 ∷ 4095 ∷ 65535 ∷ [])
    ≡ bytes 1 0x30
    ∷ bytes 1 0x39
    ∷ bytes 2 0x3130
    ∷ bytes 2 0x3938
    ∷ bytes 3 0x3130_30
    ∷ bytes 4 0x3430_3935
    ∷ bytes 5 0x3635_3533_35
    ∷ []
unfolding answer bytes digits decimal
numbers_as_shown = refl
