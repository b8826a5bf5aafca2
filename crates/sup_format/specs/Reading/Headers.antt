-- The first lines of texts, and the templates that they give.
use Rattle.std.specs.Prelude.{◌≡◌, ◌⊎◌, ℕ, ◌<◌, ◌^◌, Bool, true, false, List, [], ◌∷◌, ◌++◌, Option, None, Some, Result, Ok, Err, codes}
use Rattle.std.specs.Fmt.{decimal}
use Rattle.sup_types.specs.Template.{AreInRange, can_stand}
use Rattle.sup_types.specs.declared.template.Template.{Template}
use Rattle.sup_types.specs.declared.template.AutoShutdown.{AutoShutdown}
use Rattle.sup_types.specs.declared.template.AutoShutdown.TheVariants.{Never}
use Rattle.sup_format.specs.declared.fault.Fault.{Fault}
use Rattle.sup_format.specs.declared.fault.Fault.TheVariants as fault
use Rattle.sup_format.specs.declared.read.header.Parts.{Parts}
use Rattle.sup_format.specs.Reading.Words.{words_of}
use Rattle.sup_format.specs.Reading.Tokens.{restart_word, kind_word, mark_word, auto_word}

-- the five words that each first line has after its beginning
abbrev pub limit_words : Parts → List (List ℕ)
limit_words parts = restart_word parts.restart ∷ kind_word parts.kind ∷ decimal parts.intensity ∷ decimal parts.period ∷ decimal parts.max ∷ []

-- the two words on the ends of children that take the supervisor down
abbrev pub shutdown_words : Parts → List (List ℕ)
shutdown_words parts = mark_word parts.significant ∷ auto_word parts.auto_shutdown ∷ []

-- what is meant where they are missing
abbrev pub IsPlain : Parts → Type 0
IsPlain parts = (parts.significant ≡ false) × (parts.auto_shutdown ≡ Never)

abbrev pub FitsParts : Parts → Type 0
FitsParts parts = (parts.intensity < 2 ^ 64) × (parts.period < 2 ^ 64) × (parts.max < 2 ^ 64)

-- a header's words: with the two last ones, or without them
abbrev pub AreHeaderWords : List (List ℕ) → Parts → Type 0
AreHeaderWords words parts =
    (IsPlain parts × (words ≡ codes "sup" ∷ limit_words parts)) ⊎ (words ≡ codes "sup" ∷ (limit_words parts ++ shutdown_words parts))

-- the parts are in the ranges of a template, and go together
abbrev pub CanStand : Parts → Type 0
CanStand parts =
    AreInRange parts.intensity parts.period parts.max (2 ^ 62) × (can_stand parts.restart parts.significant parts.auto_shutdown ≡ true)

-- a template of these parts, with the most entries that there may be
pub record IsTemplateOf (template : Template) (parts : Parts) : Type 0 where
  pub restart : template.restart ≡ parts.restart
  pub kind : template.kind ≡ parts.kind
  pub intensity : template.intensity ≡ parts.intensity
  pub period : template.period ≡ parts.period
  pub max : template.max ≡ parts.max
  pub entries : template.entries ≡ 2 ^ 62
  pub significant : template.significant ≡ parts.significant
  pub auto_shutdown : template.auto_shutdown ≡ parts.auto_shutdown

-- ---- first lines, whose words are those of their parts by `Shape`

pub record HasShape (Shape : List (List ℕ) → Parts → Type 0) (line : List ℕ) (parts : Parts) : Type 0 where
  pub fits : FitsParts parts
  pub words : Shape (words_of line) parts

-- the first line of a template
pub record IsFirst (Shape : List (List ℕ) → Parts → Type 0) (line : List ℕ) (template : Template) : Type 0 where
  pub parts : Parts
  pub shape : HasShape Shape line parts
  pub template_is : IsTemplateOf template parts

-- a first line with parts of which there is no template
pub record IsOutOfRange (Shape : List (List ℕ) → Parts → Type 0) (line : List ℕ) : Type 0 where
  pub parts : Parts
  pub shape : HasShape Shape line parts
  pub unfit : CanStand parts → ⊥

-- a line of another shape
abbrev pub IsNoFirst : (List (List ℕ) → Parts → Type 0) → List ℕ → Type 0
IsNoFirst Shape line = (parts : Parts) → HasShape Shape line parts → ⊥

-- ---- what is read

-- the template of a first line, or what is wrong with it
abbrev pub HasFirst : (List (List ℕ) → Parts → Type 0) → List ℕ → Result Template Fault → Type 0
HasFirst Shape line (Ok template) = IsFirst Shape line template
HasFirst Shape line (Err fault.OutOfMemory) = ⊥
HasFirst Shape line (Err fault.BadTemplate) = IsOutOfRange Shape line
HasFirst Shape line (Err fault.BadLine) = IsNoFirst Shape line
HasFirst Shape line (Err fault.ReadFault) = ⊥
HasFirst Shape line (Err fault.WriteFault) = ⊥
HasFirst Shape line (Err fault.TooLong) = ⊥

-- the parts that words of this shape name
abbrev pub HasParts : (List (List ℕ) → Parts → Type 0) → List (List ℕ) → Option Parts → Type 0
HasParts Shape words None = (parts : Parts) → FitsParts parts → Shape words parts → ⊥
HasParts Shape words (Some parts) = FitsParts parts × Shape words parts

-- the template of the parts that were found, or what is wrong with the line
abbrev pub GivesTemplate : Option Parts → Result Template Fault → Type 0
GivesTemplate None result = result ≡ Err fault.BadLine
GivesTemplate (Some parts) (Ok template) = IsTemplateOf template parts
GivesTemplate (Some parts) (Err f) = (f ≡ fault.BadTemplate) × (CanStand parts → ⊥)

abbrev pub HasNoLimits : List (List ℕ) → Type 0
HasNoLimits words = (parts : Parts) (more : List (List ℕ)) → FitsParts parts → words ≡ limit_words parts ++ more → ⊥

abbrev pub HasNoShutdown : List (List ℕ) → Type 0
HasNoShutdown words = (mark : Bool) (auto : AutoShutdown) → words ≡ mark_word mark ∷ auto_word auto ∷ [] → ⊥
