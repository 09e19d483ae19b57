-- Document 01, "Header codes": the code of a record, of a typed header, and of a header in its file.
use Rattle.std.specs.Prelude.{ℕ, List, [], ◌∷◌, ◌++◌, eqb}
use Rattle.basics.specs.Rules.{first_broken}
use Rattle.header.specs.Places.{header_fields}
use Rattle.header.specs.Rules.{header_rules, typed_header_rules}
use Rattle.header.specs.Values.{header_of}
use Rattle.header.specs.declared.Header.{Header}

-- The header that a record says.
unfoldable pub header_value : List ℕ → Header
header_value r = header_of (header_fields r)

-- The first broken code of a record, 1 to 14; 0 means none.
unfoldable pub header_code : List ℕ → ℕ
header_code r = first_broken 1 (header_rules (header_fields r))

-- The first broken code of a typed header.
unfoldable pub typed_header_code : Header → ℕ
typed_header_code h = first_broken 1 (typed_header_rules h)

-- In a sheet of n stations there is code 15, after 1 to 14: the count is not n.
unfoldable pub filed_header_code : List ℕ → ℕ → ℕ
filed_header_code r n = first_broken 1 (header_rules (header_fields r) ++ (eqb (header_value r).count n ∷ []))
