-- The book in the making, as far as it is no machine: behind line 1, behind a definition and a rule; and what the reader says of a line.
use Rattle.std.specs.Prelude.{◌≡◌, [], Result, Ok, Err, ℕ, suc, max}
use Rattle.std.proofs.Common.{sym, subst}
use Rattle.reader.specs.Names.{Holds, More}
use Rattle.reader.specs.declared.names.Names.{Names}
use Rattle.book.specs.declared.refusal.Refusal as refused
use Rattle.forms.specs.declared.Code.{Code}
use Rattle.forms.specs.declared.Code.TheVariants.{Define, Rule}
use Rattle.reader.specs.declared.line.Line.{Line}
use Rattle.kept.specs.declared.Place.{Place}
use Rattle.kept.specs.declared.Place.TheVariants as place
use Rattle.progress.specs.declared.Book.{Book}
use Rattle.progress.specs.declared.Read.{Read}
use Rattle.compiler.specs.declared.LineRefusal.{LineRefusal}
use Rattle.compiler.specs.declared.Reason.TheVariants.{NotRead}

-- The book behind line 1.
pub record Starts (next : ℕ) (r : Book) : Type 0 where
  pub at : r.at ≡ next
  pub line : r.line ≡ 2
  pub names : Holds r.names []
  pub peak : r.peak ≡ 0

-- The book behind a definition, and behind a rule.
pub record Defined (b : Book) (x next p : ℕ) (r : Book) : Type 0 where
  pub at : r.at ≡ next
  pub line : r.line ≡ suc b.line
  pub names : More b.names x r.names
  pub peak : r.peak ≡ max b.peak p

pub record Ruled (b : Book) (next p : ℕ) (r : Book) : Type 0 where
  pub at : r.at ≡ next
  pub line : r.line ≡ suc b.line
  pub names : r.names ≡ b.names
  pub peak : r.peak ≡ max b.peak p

-- behind a line, with the names behind it
pub record Follows (b : Book) (more : Names) (next p : ℕ) (r : Book) : Type 0 where
  pub at : r.at ≡ next
  pub line : r.line ≡ suc b.line
  pub names : r.names ≡ more
  pub peak : r.peak ≡ max b.peak p

pub defined : {b : Book} {x next p : ℕ} {r : Book} {names : Names} → More b.names x names → Follows b names next p r → Defined b x next p r
defined {b} {x} M F = record { at = F.at; line = F.line; names = subst (More b.names x) (sym F.names) M; peak = F.peak }

pub ruled : {b : Book} {next p : ℕ} {r : Book} → Follows b b.names next p r → Ruled b next p r
ruled F = record { at = F.at; line = F.line; names = F.names; peak = F.peak }

abbrev pub Behind : Place → Book → ℕ → ℕ → Book → Type 0
Behind (place.Name x) b next p r = Defined b x next p r
Behind place.Book b next p r = Ruled b next p r

-- the book behind a line, by its place
pub behind_at : (b : Book) (next p : ℕ) (r : Book) (pl q : Place) → pl ≡ q → Behind q b next p r → Behind pl b next p r
behind_at b next p r pl q e U = subst (λ q. Behind q b next p r) (sym e) U

-- what the reader says of the line of a number
abbrev pub tell_code : Code → ℕ → Read
tell_code (Define x len) next = record { place = place.Name x; len = len; next = next }
tell_code (Rule len) next = record { place = place.Book; len = len; next = next }

abbrev pub tell_of : Result Line refused.Refusal → ℕ → Result Read LineRefusal
tell_of (Ok n) line = Ok (tell_code n.code n.next)
tell_of (Err r) line = Err (record { reason = NotRead r; line = line })
