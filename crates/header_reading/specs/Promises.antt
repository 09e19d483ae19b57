-- What reading a header's record promises, as a relation between the record and the answer.
use Rattle.std.specs.Prelude.{ℕ, ◌≡◌, List}
use Rattle.header.specs.Calls.{read_header_outcome, read_header}
use Rattle.header_reading.specs.declared.ReadHeader.{ReadHeader}

-- `read_header` on a record: how it ends, and the header that it hands back.
abbrev pub HeaderRead : List ℕ → ReadHeader → Type 0
HeaderRead r answer = (answer.outcome ≡ read_header_outcome r) × (answer.header ≡ read_header r)
