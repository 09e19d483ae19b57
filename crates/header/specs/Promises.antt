-- What the call on a typed header promises, as a relation between what it is given and its answer.
use Rattle.std.specs.Prelude.{ℕ, ◌≡◌}
use Rattle.header.specs.Codes.{typed_header_code}
use Rattle.header.specs.declared.Header.{Header}

-- `typed_header_code` on a header: the first rule that it breaks.
abbrev pub HeaderJudged : Header → ℕ → Type 0
HeaderJudged h answer = answer ≡ typed_header_code h
