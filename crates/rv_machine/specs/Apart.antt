-- Harts whose data lie apart: each among others is what it is alone.
use Rattle.std.specs.Prelude.{◌≡◌, ◌≢◌, ℕ, true, false, List, Some, is_some, slice_get}
use Rattle.rv_machine.specs.declared.observation.Observation.{Observation}
use Rattle.rv_machine.specs.declared.hart_recording.HartObservation.{HartObservation}
use Rattle.rv_machine.specs.declared.stops.Stop.TheVariants.{AccessFault}
use Rattle.rv_machine.specs.Bytes.{ByteMap}
use Rattle.rv_machine.specs.System.{Member, System, HartMakes, of_hart}

-- these bytes are there, with others or without
abbrev pub Covers : ByteMap → ByteMap → Type 0
Covers own bytes = (a : ℕ) → is_some (own a) ≡ true → bytes a ≡ own a

-- one made of these own bytes those, and the same of them among others; which addresses are its own stays, and the
-- others' bytes stay
pub record Changes (own bytes own' bytes' : ByteMap) : Type 0 where
  pub covers : Covers own' bytes'
  pub extent : (a : ℕ) → is_some (own' a) ≡ is_some (own a)
  pub elsewhere : (a : ℕ) → is_some (own a) ≡ false → bytes' a ≡ bytes a

-- alone with these bytes a hart reaches for no others, however many steps it makes
abbrev pub KeepsInside : ByteMap → Member → Type 0
KeepsInside own m = (n : ℕ) (seen : List Observation) (bytes : ByteMap) (after : Member)
    → HartMakes n own m seen bytes after → after.stop ≢ Some AccessFault

-- each hart has bytes of its own, no two the same, and reaches for no others
pub record AreApart (own : ℕ → ByteMap) (s : System) : Type 0 where
  pub apart : (j k a : ℕ) → j ≢ k → is_some (own j a) ≡ true → is_some (own k a) ≡ false
  pub there : (k : ℕ) → Covers (own k) s.bytes
  pub inside : (k : ℕ) (m : Member) → slice_get s.members k ≡ Some m → KeepsInside (own k) m

-- what the hart k has come to among others, and shown, is what it comes to alone in so many steps
pub record IsAsAlone (k steps : ℕ) (own : ByteMap) (m : Member) (list : List HartObservation) (end : System) :
    Type 0 where
  pub seen : List Observation
  pub bytes : ByteMap
  pub member : Member
  pub makes : HartMakes steps own m seen bytes member
  pub there : slice_get end.members k ≡ Some member
  pub bytes_there : Covers bytes end.bytes
  pub extent : (a : ℕ) → is_some (bytes a) ≡ is_some (own a)
  pub shown : of_hart k list ≡ seen

-- alone both show the same, however many steps they make
abbrev pub ShowTheSame : ByteMap → Member → ByteMap → Member → Type 0
ShowTheSame own m own' m' = (n : ℕ) (seen seen' : List Observation) (bytes bytes' : ByteMap) (after after' : Member)
    → HartMakes n own m seen bytes after → HartMakes n own' m' seen' bytes' after' → seen ≡ seen'
