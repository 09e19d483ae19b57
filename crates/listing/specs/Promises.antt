-- What the call that writes a list promises.
use Rattle.std.specs.Prelude.{ℕ, List}
use Rattle.printing.specs.Promises.{Written}
use Rattle.listing.specs.Lists.{list_of}

-- `write_list`: the list's length, and the list before the bytes that stood behind its end.
abbrev pub ListWritten : List ℕ → List ℕ → ℕ → List ℕ → Type 0
ListWritten file out answer after = Written (list_of file) out answer after
