-- Documents 01 and 02, "Refusal numbers": the paper's number of each outcome, the code that comes with it, and the order in which a call refuses.
use Rattle.std.specs.Prelude.{ℕ, Bool, not, cond, List, [], ◌∷◌, eqb, length, Result, Ok, Err}
use Rattle.basics.specs.Fields.{record_length}
use Rattle.basics.specs.declared.Refusal.{Refusal}
use Rattle.basics.specs.declared.Refusal.TheVariants as why

-- How a call ends: it is done, or there is a reason why it is refused.
abbrev pub Outcome : Type 0
Outcome = Result (Unit {0}) Refusal

-- How a call ends that answers with a value where it is done.
abbrev pub ends : {A : Type 0} → Result A Refusal → Outcome
ends (Ok x) = Ok tt
ends (Err r) = Err r

-- The number of a refusal. None has 13, which was that of turning.
abbrev pub number : Refusal → ℕ
number why.FileTooLong = 1
number why.FileNotRecords = 2
number why.SheetLength = 3
number why.SheetTrailer = 4
number why.NoSuchRecord = 5
number why.RecordLength = 6
number why.BufferLength = 7
number why.NoSuchField = 8
number why.NotALine = 10
number why.FieldTooLong = 11
number why.BufferTooShort = 12
number why.NotTwelveDigits = 14
number why.LastDigitWrong = 15
number why.NotMobileDefaults = 16
number why.TooFewRows = 17
number (why.RuleBroken c) = 9

-- The code that comes with a refusal; with any but 9 it is 0.
abbrev pub code_of : Refusal → ℕ
code_of why.FileTooLong = 0
code_of why.FileNotRecords = 0
code_of why.SheetLength = 0
code_of why.SheetTrailer = 0
code_of why.NoSuchRecord = 0
code_of why.RecordLength = 0
code_of why.BufferLength = 0
code_of why.NoSuchField = 0
code_of why.NotALine = 0
code_of why.FieldTooLong = 0
code_of why.BufferTooShort = 0
code_of why.NotTwelveDigits = 0
code_of why.LastDigitWrong = 0
code_of why.NotMobileDefaults = 0
code_of why.TooFewRows = 0
code_of (why.RuleBroken c) = c

-- The refusal's number; 0 where the call is done.
unfoldable pub refusal : Outcome → ℕ
refusal (Ok x) = 0
refusal (Err r) = number r

-- The code that comes with an outcome; with any but 9 it is 0.
unfoldable pub code_with : Outcome → ℕ
code_with (Ok x) = 0
code_with (Err r) = code_of r

-- One value where the call is done, another where it is refused.
unfoldable pub if_done : {A : Type 0} → Outcome → A → A → A
if_done o x y = cond (eqb (refusal o) 0) x y

-- What a call asks: whether a refusal applies, and which.
abbrev pub Test : Type 0
Test = Bool × Outcome

abbrev pub when : Bool → Outcome → Test
when applies o = (applies, o)

-- How a call ends that asks its tests in this order: the first refusal that applies, or done.
unfoldable pub first_refusal : List Test → Outcome
first_refusal [] = Ok tt
first_refusal (t ∷ ts) = cond t.0 t.1 (first_refusal ts)

-- A record that is offered, and a buffer to write into, that are not 219 bytes.
abbrev pub record_test : List ℕ → Test
record_test r = when (not (eqb (length r) record_length)) (Err why.RecordLength)

abbrev pub buffer_test : List ℕ → Test
buffer_test buffer = when (not (eqb (length buffer) record_length)) (Err why.BufferLength)

-- A broken rule, and its code.
abbrev pub rule_test : ℕ → Test
rule_test c = when (not (eqb c 0)) (Err (why.RuleBroken c))

-- Done where no rule is broken, else 9 and the code.
unfoldable pub judged : ℕ → Outcome
judged c = first_refusal (rule_test c ∷ [])
