-- The number of the rules by which records are judged, counted up by each change of a rule, so that whoever keeps a sheet can keep beside it by which
-- rules it was judged: 1 are those of document 01, 2 has real days alone (document 02, wish 2).
use Rattle.std.specs.Prelude.{ℕ, ◌≡◌}

abbrev pub rules_number : ℕ
rules_number = 2

-- `desk_rules`: that number.
abbrev pub RulesNumbered : ℕ → Type 0
RulesNumbered answer = answer ≡ rules_number
