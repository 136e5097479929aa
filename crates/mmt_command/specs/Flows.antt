-- A flow's text.
use Rattle.std.specs.Prelude.{◌≡◌, ◌≢◌, ◌⊎◌, ℕ, zero, suc, ◌/◌, ◌%◌, ◌^◌, ◌<◌, ◌≤◌, List, [], ◌∷◌, ◌++◌, false, codes, decimal}
use Rattle.std.specs.Fmt.{digit_glyph}
use Rattle.mmt_model.specs.declared.programmes.Flow.{Flow}

-- the last N hexadecimal digits of a number, 0-9 and a-f
unfoldable pub hex_text : ℕ → ℕ → List ℕ
hex_text zero n = []
hex_text (suc k) n = hex_text k (n / 16) ++ (digit_glyph false (n % 16) ∷ [])

-- the 32 hexadecimal digits of the address, a colon, and the port in decimal digits (this project's rule)
abbrev pub flow_text : Flow → List ℕ
flow_text f = hex_text 32 f.address ++ (58 ∷ decimal f.port)

-- the address has 128 bits, and the port is 1 to 65,535 and not that of NTP, 123 (RFC 5905)
pub record HasFlowRange (f : Flow) : Type 0 where
  pub address : f.address < 2 ^ 128
  pub port_low : 1 ≤ f.port
  pub port_high : f.port < 2 ^ 16
  pub not_ntp : f.port ≢ 123

-- Words aren't a choice of a flow. The index is the place of the first that is wrong, where they begin at 7: another word than the option, no flow after it, or a word after the flow.
abbrev pub NoFlow : List (List ℕ) → ℕ → Type 0
NoFlow words index = ((index ≡ 7) × (words ≢ []) × ((more : List (List ℕ)) → words ≢ codes "--flow" ∷ more))
    ⊎ ((index ≡ 8) × (rest : List (List ℕ)) × (words ≡ codes "--flow" ∷ rest) × ((f : Flow) (more : List (List ℕ)) → HasFlowRange f → rest ≢ flow_text f ∷ more))
    ⊎ ((index ≡ 9) × (f : Flow) × (rest : List (List ℕ)) × (words ≡ codes "--flow" ∷ flow_text f ∷ rest) × HasFlowRange f × (rest ≢ []))
