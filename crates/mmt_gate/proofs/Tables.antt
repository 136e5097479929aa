-- The headers in a table have fields within their widths.
use Rattle.std.proofs.Common.{◌≡◌, ℕ, zero, suc, Bool, true, false, List, [], ◌∷◌, Option, Some, None, Result, Ok, Err, set, replicate, refl, subst}
use Rattle.std.specs.Prelude.{IfSome}
use Rattle.mmt_base.specs.declared.refused.Refused.{Refused}
use Rattle.mmt_fields.proofs.Codec.{IsBytes}
use Rattle.mmt_ip.specs.declared.packet.Ip6Header.{Ip6Header}
use Rattle.mmt_ip.specs.Spelling.{HeaderFits}
use Rattle.mmt_ctx.specs.declared.packet.CtxWhy.{CtxWhy}
use Rattle.mmt_ctx.specs.Spelling.{Value, Fits}
use Rattle.mmt_ctx.specs.Reading.{packet_of}
use Rattle.mmt_ctx.specs.Headers.{Header as Opened, at_context, with_header, opened, opened_by, remembered, after_body}
use Rattle.mmt_ctx.proofs.Law.{packet_format}
use Rattle.mmt_gate.specs.Tables.{AllFit}

pub none_fit : (n : ℕ) → AllFit (replicate n None)
none_fit zero context = tt
none_fit (suc n) zero = tt
none_fit (suc n) (suc context) = none_fit n context

set_fits : (table : List (Option Ip6Header)) (i : ℕ) (x : Option Ip6Header) → IfSome x HeaderFits → AllFit table → AllFit (set table i x)
set_fits [] i x fits all context = tt
set_fits (t ∷ table) zero x fits all zero = fits
set_fits (t ∷ table) zero x fits all (suc context) = all (suc context)
set_fits (t ∷ table) (suc i) x fits all zero = all zero
set_fits (t ∷ table) (suc i) x fits all (suc context) = set_fits table i x fits (λ n. all (suc n)) context

remembered_fits : (table : List (Option Ip6Header)) (i : ℕ) (x : Option Ip6Header) → IfSome x HeaderFits → AllFit table → AllFit (remembered table i x)
remembered_fits table i (Some h) fits all = set_fits table i (Some h) fits all
remembered_fits table i None fits all = all

pub value_fits : (body : List ℕ) (v : Value) → IsBytes body → packet_of body ≡ Ok v → Fits v
value_fits body v are is = let f = packet_format.takes body v are tt is in f.2

-- the header that a body carries fits, where the body is bytes
pub after_fits : (table : List (Option Ip6Header)) (body : List ℕ) → IsBytes body → AllFit table → AllFit (after_body table (packet_of body))
after_fits table body are all = by (packet_of body) refl
  where
    by : (r : Result Value (Refused CtxWhy)) → packet_of body ≡ r → AllFit (after_body table r)
    by (Ok v) is = let f = value_fits body v are is in remembered_fits table v.context v.header f.header all
    by (Err e) is = all

abbrev ok : Opened → Result Opened (Refused CtxWhy)
ok h = Ok h

ok_is : (x y : Opened) → ok x ≡ ok y → x ≡ y
ok_is x y e = cc

with_header_fits : (v : Value) (full : Bool) (x : Option Ip6Header) (h : Opened) → IfSome x HeaderFits → with_header v full x ≡ ok h → HeaderFits h.header
with_header_fits v full (Some x) h fits is = subst (λ (o : Opened). HeaderFits o.header) (ok_is _ _ is) fits
with_header_fits v full None h fits is = absurd cc

pub opened_by_fits : (headers : ℕ → Option Ip6Header) (v : Value) (x : Option Ip6Header) (h : Opened) → IfSome x HeaderFits → ((context : ℕ) → IfSome (headers context) HeaderFits)
    → opened_by headers v x ≡ ok h → HeaderFits h.header
opened_by_fits headers v (Some x) h fits all is = with_header_fits v true (Some x) h fits is
opened_by_fits headers v None h fits all is = with_header_fits v false (headers v.context) h (all v.context) is

-- the header that a packet has fits, where the body is bytes
pub opened_fits : (table : List (Option Ip6Header)) (body : List ℕ) (h : Opened) → IsBytes body → AllFit table → opened (at_context table) (packet_of body) ≡ Ok h → HeaderFits h.header
opened_fits table body h are all is = by (packet_of body) refl
  where
    by : (r : Result Value (Refused CtxWhy)) → packet_of body ≡ r → HeaderFits h.header
    by (Ok v) e = let f = value_fits body v are e in opened_by_fits (at_context table) v v.header h f.header all (subst (λ r. opened (at_context table) r ≡ Ok h) e is)
    by (Err e) x = absurd (let bad : opened (at_context table) (Err e) ≡ Ok h = subst (λ r. opened (at_context table) r ≡ Ok h) x is in cc)
