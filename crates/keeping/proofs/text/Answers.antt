-- `keeping::text` meets its contract: a text of the width is taken whole, and for others every column is a space.
use Rattle.std.proofs.Common.{ℕ, ◌≡◌, ◌≢◌, List, length, replicate, ◌∙◌, Result, Ok, Err}
use Rattle.std.specs.Result.{MatchResult, result_unwrap_or}
use Rattle.std.specs.Array.{IsWholeChunk}
use borrow.Author.Tests.{eq-eqb, ne_eqb}
use Rattle.columns.specs.Texts.{text_in}
use Rattle.keeping.proofs.text.Goals as goal

taken : {E : Type 0} (n : ℕ) (s : List ℕ) (r : Result (List ℕ) E) → MatchResult r (λ t. IsWholeChunk s t n) (λ _. length s ≢ n) → result_unwrap_or r (replicate n 32) ≡ text_in n s
unfolding text_in
taken n s (Ok t) h = rw (eq-eqb (length s) n h.long) h.same
taken n s (Err e) h = rw (ne_eqb (length s) n h)

pub returns : goal.returns
returns g c = c.unwrap_or.ensures ∙ taken g.row.N c.args.s.now c.try_from.result c.try_from.ensures.1
