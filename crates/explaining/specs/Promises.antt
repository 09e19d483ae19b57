-- What the call that explains a file promises, as a relation between what it is given, its answer and what it leaves in the lent bytes.
use Rattle.std.specs.Prelude.{ℕ, List}
use Rattle.printing.specs.Promises.{Written}
use Rattle.explaining.specs.Explanations.{explanation_of}

-- `write_explanation`: the explanation's length, and the explanation before the bytes that stood behind its end.
abbrev pub ExplanationWritten : List ℕ → List ℕ → ℕ → List ℕ → Type 0
ExplanationWritten file out answer after = Written (explanation_of file) out answer after
