-- `station_rows::EnteredStations::station_row` meets its contract: the bytes of its code, its twin and its clash.
use mathlib.Core.Path.{◌≡◌, ◌∙◌}
use mathlib.Core.Bool.{Bool}
use mathlib.Core.List.{List}
use Prim.Native.Nat.{ℕ}
use Rattle.sites.specs.declared.KeptSites.{KeptSites}
use Rattle.sites.specs.Sites.{Sites}
use Rattle.sheet.specs.Entered.{good_of}
use Rattle.sheet.proofs.EnteredLaws.{good_part, row_so}
use Rattle.station_rows.proofs.EnteredStations.station_row.Goals as goal

-- what is kept of sites hangs on no code
still_sites : {file : List ℕ} {who : ℕ → Bool} {old new : KeptSites} {m : ℕ} → (new.chain ≡ old.chain) × (new.seconds ≡ old.seconds) → Sites file who old m → Sites file who new m
still_sites e so_far = record { chains = rw e.0 so_far.chains; elsewhere = rw e.1 so_far.elsewhere }

pub enter_site-elsewhere-requires : goal.enter_site-elsewhere-requires
enter_site-elsewhere-requires c =
    let some = c.requires.some_entered in
    record {
      has_record = c.requires.has_record;
      le_k = c.requires.le_k;
      kept = c.kept_code-own.ensures.kept_2;
      some_sites = record { who = good_of c.args.file.now some.parts; sites = still_sites c.kept_code-own.ensures.rest some.entered.sites };
    }

pub returns : goal.returns
returns c parts here so_far =
    let twin = c.enter_reference-twin.ensures parts here so_far.references in
    let elsewhere = c.enter_site-elsewhere.ensures.by_index (good_of c.args.file.now parts) (good_part c.args.file.now parts c.args.k here) (still_sites c.kept_code-own.ensures.rest so_far.sites) in (
      c.row_bytes.ensures ∙ row_so c.args.file.now parts so_far.closed c.args.k here _ _ _ _ c.kept_code-own.ensures.value twin.0 elsewhere.0 c.own_clash.ensures,
      record { closed = so_far.closed; kept = c.enter_site-elsewhere.ensures.kept_2; references = twin.1; sites = elsewhere.1 },
    )
