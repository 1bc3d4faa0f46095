-- Which histories have a text, and which text is a text of which history.
use Rattle.std.specs.Prelude.{◌≡◌, ℕ, ◌≤◌, ◌<◌, ⊤, Bool, true, false, All, List, [], ◌∷◌, ◌++◌, length}
use Rattle.std.specs.List.{AllByRecursion}
use Rattle.std.specs.Ordering.{is_lt}
use Rattle.dim_text.specs.Cuts.{ended}
use Rattle.dim_text.specs.Naming.{IsName}
use Rattle.dim_stack.specs.declared.Frame.{Frame}
use Rattle.dim_signature.specs.Sig.{Sig}
use Rattle.dim_history_file.specs.Value.{NamedFrame, NamedSig, stack_order, have_stacks}
use Rattle.dim_history_file.specs.declared.version.Version.{Version}
use Rattle.dim_history_file.specs.declared.version.Version.TheVariants.{One, Two}
use Rattle.dim_history_file.specs.Judging.{Begun, Stage, Head, Due, Within, Closed, State, head}
use Rattle.dim_history_file.specs.Spelling.{text_in}

pub record IsFrame (f : NamedFrame) : Type 0 where
  pub name : IsName f.name
  pub near : f.at ≤ 65535

pub record IsStack (stack : List NamedFrame) : Type 0 where
  pub some : 1 ≤ length stack
  pub few : length stack ≤ 32
  pub frames : AllByRecursion IsFrame stack

-- no stack comes before the one that stands before it
abbrev pub AreInOrder : List (List NamedFrame) → Type 0
AreInOrder [] = ⊤
AreInOrder (x ∷ []) = ⊤
AreInOrder (x ∷ y ∷ ys) = (is_lt (stack_order y x) ≡ false) × AreInOrder (y ∷ ys)

pub record IsSignature (s : NamedSig) : Type 0 where
  pub low : 1 ≤ s.depth
  pub high : s.depth ≤ 32
  pub some : 2 ≤ length s.stacks
  pub few : length s.stacks ≤ 32
  pub stacks : AllByRecursion IsStack s.stacks
  pub sorted : AreInOrder s.stacks
  pub yields : s.yields ≤ 4294967295

-- none has the stacks of one behind it
abbrev pub AreDistinct : List NamedSig → Type 0
AreDistinct [] = ⊤
AreDistinct (s ∷ sigs) = (have_stacks sigs s.stacks ≡ false) × AreDistinct sigs

-- what holds of every history that has a text
pub record IsHistory (sigs : List NamedSig) : Type 0 where
  pub few : length sigs ≤ 4096
  pub signatures : AllByRecursion IsSignature sigs
  pub distinct : AreDistinct sigs

-- what a version can say of a state and of yields: version 1 that it is on with 0, version 2 each
-- of both
abbrev pub CanSay : Version → Bool → ℕ → Type 0
CanSay One on yields = (on ≡ true) × (yields ≡ 0)
CanSay Two on yields = ⊤

abbrev pub CanSayAll : Version → List NamedSig → Type 0
CanSayAll version sigs = AllByRecursion (λ s. CanSay version s.on s.yields) sigs

-- a text of a history: its text in a version that can say all of it
pub record IsTextOf (bytes : List ℕ) (sigs : List NamedSig) : Type 0 where
  pub version : Version
  pub says : CanSayAll version sigs
  pub text : bytes ≡ text_in version sigs

-- a text begins with the first line of this version
pub record HasHead (version : Version) (bytes : List ℕ) : Type 0 where
  pub rest : List ℕ
  pub begins : bytes ≡ ended (head version) ++ rest

-- what holds of a signature whose stacks are being read
pub record IsBegun (version : Version) (sigs : List NamedSig) (begun : Begun) : Type 0 where
  pub low : 1 ≤ begun.opening.depth
  pub high : begun.opening.depth ≤ 32
  pub some : 2 ≤ begun.opening.count
  pub few : begun.opening.count ≤ 32
  pub yields : begun.opening.yields ≤ 4294967295
  pub says : CanSay version begun.opening.on begun.opening.yields
  pub due : length begun.stacks < begun.opening.count
  pub stacks : AllByRecursion IsStack begun.stacks
  pub sorted : AreInOrder begun.stacks
  pub room : length sigs < 4096

abbrev pub IsAt : Version → Stage → List NamedSig → Type 0
IsAt version Head sigs = sigs ≡ []
IsAt version Due sigs = ⊤
IsAt version (Within begun) sigs = IsBegun version sigs begun
IsAt version Closed sigs = ⊤

-- what holds of every state that reading comes to
pub record FitsStage (s : State) : Type 0 where
  pub history : IsHistory s.sigs
  pub says : CanSayAll s.version s.sigs
  pub at : IsAt s.version s.stage s.sigs

-- no offset of the stacks is above 65,535
abbrev pub AreNear : List Sig → Type 0
AreNear sigs = All (λ s. All (λ stack. All (λ (f : Frame). f.at ≤ 65535) stack) s.stacks) sigs

-- each of the stacks has 1 to 32 frames
abbrev pub IsSized : List Frame → Type 0
IsSized stack = (1 ≤ length stack) × (length stack ≤ 32)

abbrev pub AreSized : List Sig → Type 0
AreSized sigs = All (λ s. All IsSized s.stacks) sigs
