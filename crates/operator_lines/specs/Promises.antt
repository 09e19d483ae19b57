-- What writing the operators of a file promises, as a relation between what it is given, its answer and what it leaves in the lent bytes.
use Rattle.std.specs.Prelude.{ℕ, List}
use Rattle.printing.specs.Promises.{Written}
use Rattle.operator_lines.specs.Lines.{operators_of}

-- `write_operators`: the length of the text, and the text before the bytes that stood behind its end.
abbrev pub OperatorsWritten : List ℕ → List ℕ → ℕ → List ℕ → Type 0
OperatorsWritten file out answer after = Written (operators_of file) out answer after
