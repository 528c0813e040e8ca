-- The starred cases of "Ten days on paper", and short texts that pin the small numbers of the definitions, from the texts: one theorem over one list.
use Rattle.std.specs.Prelude.{ℕ, List, [], ◌∷◌, ◌++◌, take, drop}
use Prim.Native.String.{String}
use Rattle.card.specs.Verdict.{Verdict, allowed, unfinished, hopeless}
use Rattle.card.specs.Reply.{Reply, answered as verdict, refused as not_judged}
use Rattle.card.specs.NoLetters.{no_letters}
use Rattle.compiler.specs.Outcome.{card, stop}
use Rattle.compiler.specs.Lent.{documented}
use Rattle.cases.specs.Case.{bytes_of, bytes, Case, answered, always, joining, ample, compiles, judges}

-- ---- the cards

-- `>b / .*a _ .*`
abbrev pub first_card : List ℕ
first_card = 0x0C ∷ 0x00 ∷ 0x02 ∷ 0x00 ∷ 0x0E ∷ 0x00 ∷ 0x03 ∷ 0x00 ∷ 0x11 ∷ 0x00 ∷ 0x06 ∷ 0x00 ∷ 0x61 ∷ 0x62 ∷ 0x01 ∷ 0x01 ∷ 0x02 ∷ 0x01 ∷ 0x02 ∷ 0x01 ∷ 0x00 ∷ 0x02 ∷ 0x02 ∷ []

-- `>a`: "marks 01 02, moves 01 00 01 01"
abbrev pub no_a : List ℕ
no_a = 12 ∷ 0 ∷ 2 ∷ 0 ∷ 14 ∷ 0 ∷ 2 ∷ 0 ∷ 16 ∷ 0 ∷ 4 ∷ 0 ∷ 97 ∷ 98 ∷ 1 ∷ 2 ∷ 1 ∷ 0 ∷ 1 ∷ 1 ∷ []

-- "one state, marks 02"
abbrev pub nothing : List ℕ
nothing = 12 ∷ 0 ∷ 2 ∷ 0 ∷ 14 ∷ 0 ∷ 1 ∷ 0 ∷ 15 ∷ 0 ∷ 2 ∷ 0 ∷ 97 ∷ 98 ∷ 2 ∷ 0 ∷ 0 ∷ []

-- "one state, marks 01"
abbrev pub everything : List ℕ
everything = 12 ∷ 0 ∷ 2 ∷ 0 ∷ 14 ∷ 0 ∷ 1 ∷ 0 ∷ 15 ∷ 0 ∷ 2 ∷ 0 ∷ 97 ∷ 98 ∷ 1 ∷ 0 ∷ 0 ∷ []

-- `:abc`, `>b / a _ a / c _ c`
abbrev pub two_contexts : List ℕ
two_contexts = 12 ∷ 0 ∷ 3 ∷ 0 ∷ 15 ∷ 0 ∷ 8 ∷ 0 ∷ 23 ∷ 0 ∷ 24 ∷ 0 ∷ 97 ∷ 98 ∷ 99 ∷ 1 ∷ 1 ∷ 2 ∷ 1 ∷ 1 ∷ 0 ∷ 0 ∷ 1 ∷ 1 ∷ 2 ∷ 3 ∷ 4 ∷ 5 ∷ 4 ∷ 2 ∷ 2 ∷ 2 ∷ 4 ∷ 6 ∷ 4 ∷ 4 ∷ 2 ∷ 4 ∷ 7 ∷ 2 ∷ 2 ∷ 2 ∷ 2 ∷ 7 ∷ 2 ∷ 2 ∷ 2 ∷ []

-- `>aa / .*b _ .*`: calls that overlap all count
abbrev pub overlapping : List ℕ
overlapping = 12 ∷ 0 ∷ 2 ∷ 0 ∷ 14 ∷ 0 ∷ 4 ∷ 0 ∷ 18 ∷ 0 ∷ 8 ∷ 0 ∷ 97 ∷ 98 ∷ 1 ∷ 1 ∷ 1 ∷ 2 ∷ 1 ∷ 2 ∷ 3 ∷ 2 ∷ 0 ∷ 2 ∷ 3 ∷ 3 ∷ []

-- `<b / .*a _ .*`: no `b` behind an `a`
abbrev pub no_b_behind_a : List ℕ
no_b_behind_a = 12 ∷ 0 ∷ 2 ∷ 0 ∷ 14 ∷ 0 ∷ 3 ∷ 0 ∷ 17 ∷ 0 ∷ 6 ∷ 0 ∷ 97 ∷ 98 ∷ 1 ∷ 1 ∷ 2 ∷ 1 ∷ 0 ∷ 1 ∷ 2 ∷ 2 ∷ 2 ∷ []

-- `<a / b _ b`: all but `bab`
abbrev pub not_bab : List ℕ
not_bab = 12 ∷ 0 ∷ 2 ∷ 0 ∷ 14 ∷ 0 ∷ 5 ∷ 0 ∷ 19 ∷ 0 ∷ 10 ∷ 0 ∷ 97 ∷ 98 ∷ 1 ∷ 1 ∷ 1 ∷ 1 ∷ 0 ∷ 1 ∷ 2 ∷ 1 ∷ 1 ∷ 3 ∷ 1 ∷ 1 ∷ 4 ∷ 1 ∷ 1 ∷ []

-- `<a / a _ b / b _ a`: all but `aab` and `baa`
abbrev pub two_forbidden : List ℕ
two_forbidden = 12 ∷ 0 ∷ 2 ∷ 0 ∷ 14 ∷ 0 ∷ 7 ∷ 0 ∷ 21 ∷ 0 ∷ 14 ∷ 0 ∷ 97 ∷ 98 ∷ 1 ∷ 1 ∷ 1 ∷ 1 ∷ 1 ∷ 1 ∷ 0 ∷ 1 ∷ 2 ∷ 3 ∷ 4 ∷ 5 ∷ 4 ∷ 4 ∷ 6 ∷ 4 ∷ 4 ∷ 6 ∷ 4 ∷ 4 ∷ 4 ∷ []

-- `^a / a _ b / b _ a`: a plan that begins with `a` and ends with `b`, or begins with `b` and ends with `a`, is `aab` or `baa`
abbrev pub two_obliged : List ℕ
two_obliged = 12 ∷ 0 ∷ 2 ∷ 0 ∷ 14 ∷ 0 ∷ 9 ∷ 0 ∷ 23 ∷ 0 ∷ 18 ∷ 0 ∷ 97 ∷ 98 ∷ 1 ∷ 1 ∷ 1 ∷ 1 ∷ 0 ∷ 0 ∷ 1 ∷ 1 ∷ 0 ∷ 1 ∷ 2 ∷ 3 ∷ 4 ∷ 5 ∷ 6 ∷ 7 ∷ 7 ∷ 7 ∷ 4 ∷ 6 ∷ 6 ∷ 8 ∷ 6 ∷ 7 ∷ 4 ∷ 8 ∷ 6 ∷ []

-- `^b / (a _).*`: "every cut", also that with nothing between: no plan starts with an `a`
abbrev pub no_a_at_first : List ℕ
no_a_at_first = 12 ∷ 0 ∷ 2 ∷ 0 ∷ 14 ∷ 0 ∷ 3 ∷ 0 ∷ 17 ∷ 0 ∷ 6 ∷ 0 ∷ 97 ∷ 98 ∷ 1 ∷ 2 ∷ 1 ∷ 1 ∷ 2 ∷ 1 ∷ 1 ∷ 2 ∷ 2 ∷ []

-- `<@ / a _ b`: all but `ab`
abbrev pub not_ab : List ℕ
not_ab = 12 ∷ 0 ∷ 2 ∷ 0 ∷ 14 ∷ 0 ∷ 4 ∷ 0 ∷ 18 ∷ 0 ∷ 8 ∷ 0 ∷ 97 ∷ 98 ∷ 1 ∷ 1 ∷ 1 ∷ 0 ∷ 1 ∷ 2 ∷ 2 ∷ 3 ∷ 2 ∷ 2 ∷ 2 ∷ 2 ∷ []

-- the three kinds, as in mixedBook
abbrev pub mixed : List ℕ
mixed = 12 ∷ 0 ∷ 2 ∷ 0 ∷ 14 ∷ 0 ∷ 4 ∷ 0 ∷ 18 ∷ 0 ∷ 8 ∷ 0 ∷ 97 ∷ 98 ∷ 1 ∷ 2 ∷ 1 ∷ 0 ∷ 1 ∷ 2 ∷ 1 ∷ 1 ∷ 3 ∷ 2 ∷ 1 ∷ 2 ∷ []

-- ---- the cases

-- books of several cases
abbrev pub first_book : String
first_book = ":ab\n>b / .*a _ .*\n"

abbrev pub first_plans : List (String × Reply Verdict)
first_plans = ("ab", verdict allowed) ∷ ("abb", verdict (hopeless 3)) ∷ ("b", verdict (hopeless 1)) ∷ []

abbrev pub nothing_book : String
nothing_book = ":ab\n>@ / a _ .*\n"

-- "every plan hopeless 0"
abbrev pub always_hopeless : Case
always_hopeless = always (bytes_of nothing_book) (hopeless 0)

abbrev pub two_book : String
two_book = ":abc\n>b / a _ a / c _ c\n"

abbrev pub two_plans : List (String × Reply Verdict)
two_plans = ("aba", verdict allowed) ∷ ("ab", verdict (unfinished 1)) ∷ ("abc", verdict (hopeless 3)) ∷ []

-- the three kinds: an `a` only behind a `b`; no `aa`; a `b` at the end, if there is anything
abbrev pub mixed_book : String
mixed_book = ":ab\n>a / .*b _ .*\n<aa / .* _ .*\n^(.*b)? / @ _ @\n"

abbrev pub mixed_plans : List (String × Reply Verdict)
mixed_plans = ("", verdict allowed) ∷ ("bab", verdict allowed) ∷ ("ba", verdict (unfinished 1)) ∷ ("a", verdict (hopeless 1)) ∷ ("baa", verdict (hopeless 3)) ∷ []

-- the documented lengths, but that the first, or the last, is one less
abbrev pub first_short : List ℕ
first_short = 43705 ∷ drop 1 documented

abbrev pub last_short : List ℕ
last_short = take 7 documented ++ (32831 ∷ [])

abbrev pub cases : List Case
cases =
    -- the starred ones
    compiles first_book (card first_card 9)
    ∷ judges first_book first_plans
    ∷ compiles ":ab\n>a\n" (card no_a 7)
    ∷ compiles ":ab\n>a|ab / @ _ b\n" (card no_a 12)
    ∷ compiles nothing_book (card nothing 8)
    ∷ always_hopeless
    ∷ compiles ":ab\n>a / .* _ .*\n" (card everything 7)
    ∷ judges ":ab\n>a / .* _ .*b.*\n" (("a", verdict (unfinished 1)) ∷ ("ab", verdict allowed) ∷ [])
    ∷ judges two_book two_plans
    ∷ joining 2 5
    -- a pattern that holds the empty plan, a call at every gap; calls that overlap; the contexts taken off one by one
    ∷ compiles ":ab\n>@ / .* _ .*\n" (card everything 6)
    ∷ compiles ":ab\n>aa / .*b _ .*\n" (card overlapping 11)
    ∷ compiles two_book (card two_contexts 16)
    -- `<` and `^`: one context and two, and `<` where every cut fits, which is `>` without contexts
    ∷ compiles ":ab\n<a/b_b\n" (card not_bab 8)
    ∷ compiles ":ab\n<b / .*a _ .*\n" (card no_b_behind_a 8)
    ∷ compiles ":ab\n<a / .* _ .*\n" (card no_a 7)
    ∷ compiles ":ab\n<a/a_b/b_a\n" (card two_forbidden 12)
    ∷ compiles ":ab\n^a/a_b/b_a\n" (card two_obliged 14)
    -- with an empty middle
    ∷ compiles ":ab\n^b / .*a _ .*\n" (card no_a 9)
    ∷ compiles ":ab\n^b / a _ .*\n" (card no_a_at_first 9)
    ∷ compiles ":ab\n<@ / a _ b\n" (card not_ab 7)
    -- the three kinds in one book
    ∷ compiles mixed_book (card mixed 9)
    ∷ judges mixed_book mixed_plans
    -- a definition's stages count
    ∷ compiles ":ab\n=Aaaaaaa\n>a\n" (card no_a 9)
    -- no rule: everything, with the peak of the definitions; no bytes, and what can be judged there
    ∷ compiles ":ab\n" (card everything 0)
    ∷ compiles ":ab\n=A(a)\n" (card everything 0)
    ∷ compiles ":ab\n=A!@\n" (card everything 3)
    ∷ compiles ":ab\n=A.*\n" (card everything 4)
    ∷ compiles ":ab\n=Aa+\n" (card everything 5)
    ∷ compiles "" (card (no_letters 1) 0)
    ∷ judges "" (("", verdict allowed) ∷ ("a", not_judged 27 0) ∷ [])
    -- 1: over 16,384 bytes, also with a short buffer, and not over; 2: one buffer short, also with no text, or one missing or too many; 11, and a card
    -- buffer just long enough, also with no rule and with no text
    ∷ answered (bytes 16385 97) documented ample (stop 1 0)
    ∷ answered (bytes 16385 97) first_short ample (stop 1 0)
    ∷ answered (bytes 16384 97) documented ample (stop 5 1)
    ∷ answered (bytes_of ":ab\n>a\n") first_short ample (stop 2 0)
    ∷ answered (bytes_of ":ab\n>a\n") last_short ample (stop 2 0)
    ∷ answered [] last_short ample (stop 2 0)
    ∷ answered (bytes_of ":ab\n>a\n") (take 7 documented) ample (stop 2 0)
    ∷ answered (bytes_of ":ab\n>a\n") (documented ++ (0 ∷ [])) ample (stop 2 0)
    ∷ answered (bytes_of first_book) documented 22 (stop 11 0)
    ∷ answered (bytes_of first_book) documented 23 (card first_card 9)
    ∷ answered (bytes_of ":ab\n") documented 16 (stop 11 0)
    ∷ answered [] documented 12 (stop 11 0)
    ∷ answered [] documented 13 (card (no_letters 1) 0)
    -- 3: four brackets and five, a count below zero, along the whole line, in line 1 and in a line without its end
    ∷ compiles ":ab\n>((((a))))\n" (card no_a 7)
    ∷ compiles ":ab\n>(((((a)))))\n" (stop 3 2)
    ∷ compiles ":ab\n>)(((((\n" (stop 5 2)
    ∷ compiles ":ab\n>~(((((\n" (stop 3 2)
    ∷ compiles ":(((((\n" (stop 3 1)
    ∷ compiles ":ab\n>(((((" (stop 3 2)
    -- 4: four `_` and five, in every line
    ∷ compiles ":ab\n>a/a_b/a_b/a_b/a_b\n" (card no_a 11)
    ∷ compiles ":ab\n>a/a_b/a_b/a_b/a_b/a_b\n" (stop 4 2)
    ∷ compiles ":ab\n<a/a_b/a_b/a_b/a_b/a_b\n" (stop 4 2)
    ∷ compiles ":ab\n=A____\n" (stop 5 2)
    ∷ compiles ":ab\n=A_____\n" (stop 4 2)
    ∷ compiles ":_____\n" (stop 4 1)
    -- 5: line ends, blank lines, spaces, forms
    ∷ compiles ":ab\n>c" (stop 5 2)
    ∷ compiles ":ab\n>a\n " (stop 5 3)
    ∷ compiles ":ab\n\n>a\n" (stop 5 2)
    ∷ compiles ":ab\n>a\n\n" (stop 5 3)
    ∷ compiles ":ab\n= A a\n>  A  \n" (card no_a 7)
    ∷ compiles ":ab\n >a\n" (stop 5 2)
    ∷ compiles ":ab \n>a\n" (stop 5 1)
    ∷ compiles ":ab\r\n>a\r\n" (stop 5 1)
    ∷ compiles ":ab\n=A1a\n" (stop 5 2)
    ∷ compiles ":ab\n>()\n" (stop 5 2)
    ∷ compiles ":ab\n>a|\n" (stop 5 2)
    ∷ compiles ":ab\n>!*a\n" (stop 5 2)
    ∷ compiles ":ab\n>a/(b_b)\n" (stop 5 2)
    ∷ compiles ":ba\n>a\n" (stop 5 1)
    ∷ compiles ":\n>a\n" (stop 5 1)
    ∷ compiles ":\n" (stop 5 1)
    ∷ compiles ":" (stop 5 1)
    ∷ compiles "\n" (stop 5 1)
    ∷ compiles ":ab\n:ab\n" (stop 5 2)
    -- 5: "Both need at least one context"; their signs stand first in a later line
    ∷ compiles ":ab\n<a\n" (stop 5 2)
    ∷ compiles ":ab\n^a\n" (stop 5 2)
    ∷ compiles ":ab\n<c\n" (stop 5 2)
    ∷ compiles ":ab\n>a<b\n" (stop 5 2)
    ∷ compiles ":a<b\n" (stop 5 1)
    ∷ compiles ":ab\n=A^\n" (stop 5 2)
    -- 5 before 6, 6 before 7, a name's own line does not define it
    ∷ compiles ":ab\n>c|\n" (stop 5 2)
    ∷ compiles ":ab\n>c\n" (stop 6 2)
    ∷ compiles ":ab\n<c/a_b\n" (stop 6 2)
    ∷ compiles ":ab\n=Aa\n=Ac\n" (stop 6 3)
    ∷ compiles ":ab\n=AA\n" (stop 6 2)
    ∷ compiles ":ab\n=Aa\n=AA\n" (stop 7 3)
    ∷ compiles ":ab\n=Aa\n=A(\n" (stop 5 3)
    ∷ []
