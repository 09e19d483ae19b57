-- The list of a file by its length: one line where it is refused, else something for each station.
use mathlib.Core.Path.{◌≡◌}
use mathlib.Core.Bool.{true, false}
use mathlib.Core.List.{List}
use Prim.Native.Nat.{ℕ}
use Rattle.basics.specs.Outcomes.{refusal, if_done}
use Rattle.basics.proofs.RefusalLaws.{done}
use Rattle.files.specs.Files.{stations}
use Rattle.files.specs.Calls.{length_outcome}
use Rattle.forms.specs.Counting.{rows}
use Rattle.printing.specs.Lines.{refused_line}
use Rattle.listing.specs.Lists.{entry_of, list_of}

-- A refused file has its one line,
pub refused_list : (file : List ℕ) → done (length_outcome file) ≡ false → list_of file ≡ refused_line (refusal (length_outcome file))
unfolding list_of if_done
refused_list file e = rw e

-- any other something for each station.
pub whole_list : (file : List ℕ) → done (length_outcome file) ≡ true → list_of file ≡ rows (entry_of file) (stations file)
unfolding list_of if_done
whole_list file e = rw e
