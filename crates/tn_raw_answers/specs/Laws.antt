-- What firms that are content say of an arrangement.
use Rattle.std.specs.Prelude.{◌≡◌, ◌↔◌, ℕ, ◌<◌, ℤ, true, false, List, length, slice_get, Option, Some}
use Rattle.tn_base.specs.Firm.{Firm}
use Rattle.tn_model.specs.declared.ends.Ends.{Ends}
use Rattle.tn_said.specs.declared.holding.Holding.{Holding}
use Rattle.tn_said.specs.declared.said.Said.{Said}
use Rattle.tn_said.specs.declared.said.Said.TheVariants.{Equilibrium, Better, Impossible}
use Rattle.tn_market.specs.Equilibrium.{IsEquilibrium}
use Rattle.tn_commands.specs.Check.{ChecksArrangement}
use Rattle.tn_raw_answers.specs.Firms.{is_content, TellsFirms}

-- all are content exactly where the arrangement is an equilibrium of the firms as they are written
abbrev pub AllContentIsEquilibrium : Type 0
AllContentIsEquilibrium =
    (firms : List Firm) (trades : List Ends) (scale : ℤ) (on : ℕ) (prices : ℕ
    → ℤ) (content : ℕ) (told : List Holding) (surplus : Option ℤ)
    → TellsFirms firms trades scale on prices content told surplus → (content ≡ length firms)
    ↔ IsEquilibrium firms trades scale on prices

-- firm f is the first that isn't content
pub record IsFirstDiscontent (told : List Holding) (f : ℕ) : Type 0 where
  pub before : (g : ℕ) (holding : Holding) → g < f → slice_get told g ≡ Some holding → is_content holding ≡ true
  pub holding : Holding
  pub is : slice_get told f ≡ Some holding
  pub discontent : is_content holding ≡ false

-- a verdict says what the firms' holdings say: an equilibrium where all are content, or the first firm that isn't
abbrev pub SaysTheSame : ℕ → List Holding → Said → Type 0
SaysTheSame content told (Equilibrium surplus) = content ≡ length told
SaysTheSame content told (Better f bundle gain) = IsFirstDiscontent told f
SaysTheSame content told (Impossible f) = IsFirstDiscontent told f
SaysTheSame content told said = ⊥

abbrev pub CheckNamesTheFirst : Type 0
CheckNamesTheFirst =
    (firms : List Firm) (trades : List Ends) (scale : ℤ) (on : ℕ) (prices : ℕ
    → ℤ) (content : ℕ) (told : List Holding) (surplus : Option ℤ) (said : Said)
    → TellsFirms firms trades scale on prices content told surplus → ChecksArrangement firms trades scale on prices said
    → SaysTheSame content told said
