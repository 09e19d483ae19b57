-- What the call for carriages promises to callers in C.
use Rattle.std.specs.Prelude.{ℕ, List}
use Rattle.carriage_lines.specs.Calls.{carriage_filing, filed_carriage}
use Rattle.answers.specs.Endings.{AnsweredLeaving}

-- `desk_carriage` of a line and defaults into a record.
abbrev pub CarriageRecordIn : List ℕ → List ℕ → List ℕ → ℕ → List ℕ → ℕ → Type 0
CarriageRecordIn t defaults before answer after code = AnsweredLeaving (carriage_filing t defaults before) (filed_carriage t defaults before) answer after code
