-- Where a piece that is handed out stands in the bytes that were lent.
use Rattle.std.specs.Prelude.{ℕ, ◌+◌, ◌≡◌, List}
use Rattle.std.specs.Borrow.{Bor}

-- A piece of the bytes that are lent, not a copy: it begins a bytes after their first.
abbrev pub StandsAt : Bor (List ℕ) → ℕ → Bor (List ℕ) → Type 0
StandsAt whole a piece = piece.ref_ptr ≡ (whole.ref_ptr.0, whole.ref_ptr.1 + a)
