-- A list of deliveries as a text (this project's format).
use Rattle.std.specs.Prelude.{◌≡◌, ◌≢◌, ℕ, ◌+◌, ◌<◌, ◌≤◌, List, [], ◌∷◌, ◌++◌, length, drop, decimal}
use Rattle.std.specs.List.{AllByRecursion, flat_map}
use Rattle.mmt_channel.specs.declared.deliveries.ListEnd.{ListEnd}
use Rattle.mmt_channel.specs.declared.deliveries.ListEnd.TheVariants as ends

-- the line of a place of a cast: decimal digits and a line feed
abbrev pub line_of : ℕ → List ℕ
line_of d = decimal d ++ 10 ∷ []

-- a text is that of a list of places among `sent` packets
pub record IsListText (sent : ℕ) (text : List ℕ) (list : List ℕ) : Type 0 where
  pub lines : text ≡ flat_map line_of list
  pub places : AllByRecursion (λ d. d < sent) list

-- a text begins with the line of a place among `sent` packets, which has `size` bytes
pub record IsLine (sent place size : ℕ) (text : List ℕ) : Type 0 where
  pub begins : text ≡ line_of place ++ drop size text
  pub known : place < sent
  pub within : size ≤ length text
  pub some : 1 ≤ size

-- the first lines of a text are those of a list, and no line of a place follows, though something does
pub record IsRefusedAt (sent line : ℕ) (text : List ℕ) : Type 0 where
  pub list : List ℕ
  pub rest : List ℕ
  pub lines : text ≡ flat_map line_of list ++ rest
  pub places : AllByRecursion (λ d. d < sent) list
  pub before : length list ≡ line
  pub some : 1 ≤ length rest
  pub wrong : (d : ℕ) (more : List ℕ) → d < sent → rest ≢ line_of d ++ more

-- why a text is no list: its first line that is none, or out of memory
abbrev pub IsRefused : ℕ → List ℕ → ListEnd → Type 0
IsRefused sent text (ends.Line line) = IsRefusedAt sent line text
IsRefused sent text ends.OutOfMemory = Unit {0}
