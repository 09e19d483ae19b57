-- What is kept while the rows of one file are written: codes, the first bearers of 13X, and sites, of those stations that take part.
use Rattle.std.specs.Prelude.{ℕ, ◌≡◌, Bool, true, cond, ◌&&◌, List, eqb, leb}
use Rattle.words.specs.Words.{word_of}
use Rattle.stations.specs.Stations.{code_at, site_at}
use Rattle.forms.specs.OwnForm.{row_in}
use Rattle.chains.specs.declared.chaining.Chain.{Chain}
use Rattle.chains.specs.declared.keys.Key.TheVariants as key
use Rattle.chains.specs.declared.keys.Scope.{Scope}
use Rattle.chains.specs.Chains.{Search, Chains}
use Rattle.chains.specs.Keys.{lookup, Chained}
use Rattle.chains.specs.Scopes.{in_scope}
use Rattle.sites.specs.declared.KeptSites.{KeptSites}
use Rattle.sites.specs.Kept.{Kept}
use Rattle.sites.specs.Sites.{Sites}
use Rattle.sheet.specs.Sheets.{row_of}

-- Stations are looked up by 13X.
abbrev pub by_reference : (ℕ → Bool) → List ℕ → Search
by_reference parts file = lookup key.Reference parts file

-- The stations to m are chained by it, whoever takes part.
abbrev pub ReferencesChained : List ℕ → Chain → ℕ → Type 0
ReferencesChained file chain m = Chained key.Reference file chain m

-- Of those that take part, the ones that break no rule.
abbrev pub good_of : List ℕ → (ℕ → Bool) → ℕ → Bool
good_of file parts i = parts i && eqb (code_at file i) 0

-- The stations to m that take part are entered; with one station all of its site take part.
pub record Entered (file : List ℕ) (parts : ℕ → Bool) (chain : Chain) (found : KeptSites) (m : ℕ) : Type 0 where
  pub closed : (i j : ℕ) → site_at file i ≡ site_at file j → parts i ≡ parts j
  pub kept : Kept file found.codes
  pub references : Chains (by_reference parts file) chain m
  pub sites : Sites file (good_of file parts) found m

-- So they are, whoever takes part.
pub record SomeEntered (file : List ℕ) (chain : Chain) (found : KeptSites) (m : ℕ) : Type 0 where
  pub parts : ℕ → Bool
  pub entered : Entered file parts chain found m

-- Everybody takes part.
abbrev pub everybody : ℕ → Bool
everybody i = true

-- Station i is in scope.
abbrev pub scoped : Scope → List ℕ → ℕ → Bool
scoped scope file i = in_scope scope (word_of (site_at file i))

-- The rows from a number on that are in scope are written, and get their value for the file; every other row keeps its bytes.
unfoldable pub written : Scope → ℕ → List ℕ → ℕ → Bool
written scope from file j = leb from j && scoped scope file j

unfoldable pub written_row : Scope → ℕ → List ℕ → List ℕ → ℕ → List ℕ
written_row scope from file sheet j = cond (written scope from file j) (row_of file j) (row_in sheet j)
