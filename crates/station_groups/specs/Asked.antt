-- Document 01, "Then across fields": what the rules between fields ask of single values and of two facts.
use Rattle.std.specs.Prelude.{ℕ, Bool, not, ◌&&◌, List}
use Rattle.columns.specs.Texts.{bytes, same}

-- The antenna type of no direction.
unfoldable pub round_antenna : List ℕ → Bool
round_antenna p = same (bytes "000ND00") p

-- The two do not stand together.
abbrev pub never : Bool → Bool → Bool
never x y = not (x && y)
