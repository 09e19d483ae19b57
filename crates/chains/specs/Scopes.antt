-- Who takes part: the stations of a file whose sites are in scope.
use Rattle.std.specs.Prelude.{ℕ, Bool, ◌||◌, eqb}
use Rattle.chains.specs.declared.keys.Scope.{Scope}

-- A site, given as a number, is in scope.
unfoldable pub in_scope : Scope → ℕ → Bool
in_scope scope site = scope.all || (eqb site scope.one || eqb site scope.other)
