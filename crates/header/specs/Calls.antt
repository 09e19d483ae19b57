-- Document 01, "Refusal numbers": how the calls on headers end, and what they hand back and leave.
use Rattle.std.specs.Prelude.{ℕ, List, [], ◌∷◌}
use Rattle.basics.specs.Outcomes.{if_done, first_refusal, record_test, buffer_test, rule_test, Outcome}
use Rattle.header.specs.Values.{empty_header}
use Rattle.header.specs.Spelling.{spell_header}
use Rattle.header.specs.Codes.{header_value, header_code, typed_header_code, filed_header_code}
use Rattle.header.specs.declared.Header.{Header}

-- Reading a record uses 6 and 9.
unfoldable pub read_header_outcome : List ℕ → Outcome
read_header_outcome r = first_refusal (record_test r ∷ rule_test (header_code r) ∷ [])

-- It returns the header, and the empty one on a refusal.
unfoldable pub read_header : List ℕ → Header
read_header r = if_done (read_header_outcome r) (header_value r) empty_header

-- Writing into a lent buffer uses 7 and 9.
unfoldable pub write_header_outcome : Header → List ℕ → Outcome
write_header_outcome h buffer = first_refusal (buffer_test buffer ∷ rule_test (typed_header_code h) ∷ [])

-- It leaves the header's spelling there, and on a refusal every byte as it was.
unfoldable pub written_header : Header → List ℕ → List ℕ
written_header h buffer = if_done (write_header_outcome h buffer) (spell_header h) buffer

-- In a file of n stations the header is judged with code 15.
unfoldable pub filed_header_outcome : List ℕ → ℕ → Outcome
filed_header_outcome r n = first_refusal (record_test r ∷ rule_test (filed_header_code r n) ∷ [])
