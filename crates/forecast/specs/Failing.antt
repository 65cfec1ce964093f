-- What is written, and what is read, where a read or a write fails. Definitions only.
use Rattle.std.specs.Prelude.{◌≡◌, ℕ, List, ◌++◌, take, Option, IfSome}
use Rattle.std.specs.Io.KnownBytes.{Appends, Consumes}
use Rattle.forecast.specs.Pond.{header}

-- known bytes grow by a prefix of the text
abbrev pub AppendsPrefix : Option (List ℕ) → Option (List ℕ) → List ℕ → Type 0
AppendsPrefix old new text = (prefix : List ℕ) × (rest : List ℕ) × (text ≡ prefix ++ rest) × Appends old new prefix

-- what pond reads: the known bytes, but no more than 761
abbrev pub ReadsFile : Option (List ℕ) → Option (List ℕ) → Type 0
ReadsFile old new = IfSome old (λ bytes. Consumes old new (take 761 bytes))

-- the header is not written whole, and the reader is as it was
abbrev pub EndsAtHeader : {R : Type 0} → R → R → Option (List ℕ) → Option (List ℕ) → Type 0
EndsAtHeader input input′ old new = (input′ ≡ input) × AppendsPrefix old new header

-- a read failed: what is written is the header
abbrev pub EndsAtRead : Option (List ℕ) → Option (List ℕ) → Type 0
EndsAtRead old new = Appends old new header

-- a line is not written whole: the header stands before it, and all is read
abbrev pub EndsAtLine : Option (List ℕ) → Option (List ℕ) → Option (List ℕ) → Option (List ℕ) → Type 0
EndsAtLine known rest old new = ReadsFile known rest × (lines : List ℕ) × Appends old new (header ++ lines)
