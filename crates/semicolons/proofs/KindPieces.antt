-- Each kind of field is spelled with its spaces on its padding side and without a mark, and so are the fields of a table.
use mathlib.Core.Path.{◌≡◌, subst}
use mathlib.Core.Bool.{Bool, true, false, not, ◌&&◌, false≢true}
use mathlib.Core.List.{List, [], ◌∷◌}
use Prim.Native.Nat.{ℕ}
use borrow.Author.Tests.{eqb-true}
use Rattle.columns.specs.Texts.{blank, trimmed, every, sized}
use Rattle.decimals.specs.Decimals.{decimal_width}
use Rattle.columns.proofs.TextLaws.{and_split}
use Rattle.fields.specs.Kinds.{TextRule, places, word, left_text, literal, emission, Kind, amount, unit, byte, choice, text, dropped, remarks, date, date_or_blank, tenths, kilometres, metres, metres_or_blank, position, whole, whole_or_blank, text_keeps, meaning}
use Rattle.fields.specs.Rows.{Row, Values, places_of, fits_of, spelt_of}
use Rattle.fields.proofs.KindLaws.{as_wide, lawful, text_wide_lem}
use Rattle.fields.proofs.RowLaws.{sound, row_sound}
use Rattle.basics.specs.Rules.{All}
use Rattle.semicolons.specs.Fields.{side_of, sides_of}
use Rattle.semicolons.specs.declared.Side.{Side}
use Rattle.semicolons.specs.declared.Side.TheVariants as side
use Rattle.semicolons.proofs.PieceLaws.{Piece, Pieces, refuses_marks, refuses_spaces}
use Rattle.semicolons.proofs.FieldPieces.{opens, open_piece, all_pass, one_passes, all_refuse, byte_piece, amount-piece, unit_piece, tenths_piece, radius_piece, ground_piece, height_piece, day_piece, position_piece}
use Rattle.semicolons.proofs.TextPieces.{opening, places_open, word_opens, emission_piece, remarks_piece}

-- A kind stands in lists, and its parameters admit no mark, and no space first: one computed test. The kinds of the header alone stand in none.
abbrev text_listed : TextRule → Bool
text_listed (places tests) = all_refuse tests && opening tests
text_listed (word set) = refuses_spaces set
text_listed (left_text set) = false
text_listed (literal x) = false
text_listed emission = true

abbrev listed : Kind → Bool
listed amount = true
listed unit = true
listed (byte first set) = refuses_marks set
listed (choice xs) = all_pass opens xs
listed (text rule) = text_listed rule
listed (dropped rule) = false
listed remarks = true
listed date = false
listed date_or_blank = true
listed (tenths a sign range) = true
listed kilometres = true
listed metres = true
listed metres_or_blank = true
listed position = true
listed whole = false
listed whole_or_blank = false

in_columns : {s : Side} {n w : ℕ} {p : List ℕ} → Piece s n p → n ≡ w → Piece s w p
in_columns {s = s} {p = p} h q = subst (λ (n : ℕ). Piece s n p) q h

text_piece : (rule : TextRule) (w : ℕ) → as_wide (text rule) w ≡ true → text_listed rule ≡ true → (p : List ℕ) → text_keeps rule w p ≡ true → Piece side.Right w p
text_piece (places tests) w s r p e = open_piece w p (text_wide_lem (places tests) w s p e) (places_open tests p r e)
text_piece (word set) w s r p e = open_piece w p (text_wide_lem (word set) w s p e) (word_opens set r p (and_split (sized w p) (not (blank p) && every set (trimmed p)) e).1)
text_piece (left_text set) w s r p e = absurd (false≢true r)
text_piece (literal x) w s r p e = absurd (false≢true r)
text_piece emission w s r p e = in_columns (emission_piece p e) (eqb-true 9 w s)

kind_piece : (k : Kind) (w : ℕ) → as_wide k w ≡ true → listed k ≡ true → (v : (meaning k w).Value) → (meaning k w).fits v ≡ true → Piece (side_of k) w ((meaning k w).spelt v)
kind_piece amount w s r v e = in_columns (amount-piece v) (eqb-true 11 w s)
kind_piece unit w s r v e = in_columns (unit_piece v) (eqb-true 1 w s)
kind_piece (byte first set) w s r v e = in_columns (byte_piece set r v e) (eqb-true 1 w s)
kind_piece (choice xs) w s r v e = open_piece w v ((lawful (choice xs) w s).wide v e) (one_passes opens xs v r e)
kind_piece (text rule) w s r v e = text_piece rule w s r v e
kind_piece (dropped rule) w s r v e = absurd (false≢true r)
kind_piece remarks w s r v e = in_columns (remarks_piece v e) (eqb-true 50 w s)
kind_piece date w s r v e = absurd (false≢true r)
kind_piece date_or_blank w s r v e = in_columns (day_piece v) (eqb-true 8 w s)
kind_piece (tenths a sign range) w s r v e = in_columns (tenths_piece a 1 sign v) (eqb-true (decimal_width a 1 sign) w s)
kind_piece kilometres w s r v e = in_columns (radius_piece v) (eqb-true 5 w s)
kind_piece metres w s r v e = in_columns (ground_piece v) (eqb-true 4 w s)
kind_piece metres_or_blank w s r v e = in_columns (height_piece v) (eqb-true 4 w s)
kind_piece position w s r v e = in_columns (position_piece v e) (eqb-true 15 w s)
kind_piece whole w s r v e = absurd (false≢true r)
kind_piece whole_or_blank w s r v e = absurd (false≢true r)

-- ---- over any table

abbrev pub all_listed : List Row → Bool
all_listed [] = true
all_listed (r ∷ rs) = listed r.kind && all_listed rs

pub table_pieces : (t : List Row) (v : Values t) → sound t ≡ true → all_listed t ≡ true → All (fits_of t v) → Pieces (sides_of t) (places_of t) (spelt_of t v)
table_pieces [] v s r h = tt
table_pieces (row ∷ rs) v s r h =
    let a = row_sound row rs s in
    let b = and_split (listed row.kind) (all_listed rs) r in
    (kind_piece row.kind row.length a.0 b.0 v.0 h.0, table_pieces rs v.1 a.1 b.1 h.1)
