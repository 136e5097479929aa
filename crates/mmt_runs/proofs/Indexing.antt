-- The units in the index as packets and names come and go.
use Rattle.std.proofs.Common.{◌≡◌, ℕ, ◌+◌, Bool, true, false, ◌||◌, ◌&&◌, ◌==◌, cond, List, [], ◌∷◌, ◌++◌, map, refl, ap, sym, ◌∙◌, arith, subst, Option, Some, None, IfSome, Result, Ok, Err}
use Rattle.std.specs.List.{AllByRecursion, list_any}
use Rattle.std.specs.Ordering.{is_eq}
use Rattle.mmt_base.specs.declared.refused.Refused.{Refused}
use Rattle.mmt_model.specs.Packets.{DataUnit, Heard, Payload}
use Rattle.mmt_model.specs.declared.keys.UnitKey.{UnitKey}
use Rattle.mmt_model.specs.declared.keys.Part.{Part}
use Rattle.mmt_model.specs.declared.keys.Part.TheVariants as parts
use Rattle.mmt_mpu.specs.Reading.{payload_of}
use Rattle.mmt_mpu.specs.Spelling.{Value}
use Rattle.mmt_mpu.specs.declared.types.MpuWhy.{MpuWhy}
use Rattle.mmt_packet.specs.declared.packet.Kind.{Kind}
use Rattle.mmt_packet.specs.declared.packet.Kind.TheVariants as kinds
use Rattle.mmt_pool.specs.declared.types.Span.{Span}
use Rattle.mmt_pool.specs.Holding.{Kept}
use Rattle.mmt_sig.specs.declared.head.SigWhy.{SigWhy}
use Rattle.mmt_sig.specs.Payload.{Payload as Signals}
use Rattle.mmt_sig.specs.PayloadReading.{payload_of as signals_of}
use Rattle.mmt_times.specs.Known.{Known, time_in}
use Rattle.mmt_runs.specs.declared.index.Due.{Due}
use Rattle.mmt_runs.specs.Index.{IsIn, HasKey, HasEach, HasTimes, Begins, begun_by, units_in, spelled_at, due_at}
use Rattle.mmt_runs.specs.Media.{media_at, if_media}
use Rattle.mmt_runs.specs.Reading.{media_of, signals_by, payload_by, data_unit_of}
use Rattle.mmt_runs.proofs.Linking.{payload_heard}

-- what the index has of a packet it may have with more
abbrev pub KeepsOf : List Due → List Due → Span → Type 0
KeepsOf old new s = (q : Due) → q.span ≡ s → IsIn old q → IsIn new q

pub key-keeps : (old new : List Due) (known : Known) (s : Span) (mpu place : ℕ) (key : UnitKey) → KeepsOf old new s → HasKey old known s mpu place key → HasKey new known s mpu place key
key-keeps old new known s mpu place key k h = go (time_in known s.packet_id mpu key) h
  where
    go : (o : Option ℕ) → IfSome o (λ t. IsIn old (due_at t s mpu key place)) → IfSome o (λ t. IsIn new (due_at t s mpu key place))
    go None h = h
    go (Some t) h = k (due_at t s mpu key place) refl h

pub each-keeps : (old new : List Due) (known : Known) (s : Span) (mpu place : ℕ) (ds : List DataUnit) → KeepsOf old new s → HasEach old known s mpu place ds → HasEach new known s mpu place ds
each-keeps old new known s mpu place [] k h = tt
each-keeps old new known s mpu place (d ∷ ds) k h = (key-keeps old new known s mpu place d.key k h.0, each-keeps old new known s mpu (place + 1) ds k h.1)

pub times-keep : (old new : List Due) (known : Known) (s : Span) (c : Payload) → KeepsOf old new s → HasTimes old known s c → HasTimes new known s c
times-keep old new known s c k h = go (begun_by c) h
  where
    go : (o : Option ℕ) → IfSome o (λ mpu. HasEach old known s mpu 0 (units_in c)) → IfSome o (λ mpu. HasEach new known s mpu 0 (units_in c))
    go None h = h
    go (Some mpu) h = each-keeps old new known s mpu 0 (units_in c) k h

-- fewer times may be known
each-known : (index : List Due) (known other : Known) (s : Span) (mpu place : ℕ) (ds : List DataUnit) → ((d : DataUnit) (t : ℕ) → time_in other s.packet_id mpu d.key ≡ Some t → time_in known s.packet_id mpu d.key ≡ Some t) → HasEach index known s mpu place ds → HasEach index other s mpu place ds
each-known index known other s mpu place [] k h = tt
each-known index known other s mpu place (d ∷ ds) k h = (go (time_in other s.packet_id mpu d.key) (λ t e. rw (k d t e) at h.0), each-known index known other s mpu (place + 1) ds k h.1)
  where
    go : (o : Option ℕ) → ((t : ℕ) → o ≡ Some t → IsIn index (due_at t s mpu d.key place)) → IfSome o (λ t. IsIn index (due_at t s mpu d.key place))
    go None f = tt
    go (Some t) f = f t refl

pub times-known : (index : List Due) (known other : Known) (s : Span) (c : Payload) → ((mpu : ℕ) → begun_by c ≡ Some mpu → (d : DataUnit) (t : ℕ) → time_in other s.packet_id mpu d.key ≡ Some t → time_in known s.packet_id mpu d.key ≡ Some t) → HasTimes index known s c → HasTimes index other s c
times-known index known other s c k h = go (begun_by c) (λ mpu e. k mpu e) h
  where
    go : (o : Option ℕ) → ((mpu : ℕ) → o ≡ Some mpu → (d : DataUnit) (t : ℕ) → time_in other s.packet_id mpu d.key ≡ Some t → time_in known s.packet_id mpu d.key ≡ Some t) → IfSome o (λ mpu. HasEach index known s mpu 0 (units_in c)) → IfSome o (λ mpu. HasEach index other s mpu 0 (units_in c))
    go None f h = h
    go (Some mpu) f h = each-known index known other s mpu 0 (units_in c) (f mpu refl) h

-- the units of a payload that was looked at
pub times-of : (index : List Due) (known : Known) (s : Span) (c : Payload) (v : Value) → Begins c (Some v) → HasEach index known s v.head.mpu 0 (map data_unit_of v.units) → HasTimes index known s c
times-of index known s c v b h = rw (b.0, b.1) h

pub times-none : (index : List Due) (known : Known) (s : Span) (c : Payload) → begun_by c ≡ None → HasTimes index known s c
times-none index known s c e = rw e tt

-- ---- what a payload's bytes spell

-- units begin in no other packet than one of media
pub none-begun : (o : Option Kept) → media_at o ≡ None → begun_by (spelled_at o) ≡ None
none-begun None e = refl
none-begun (Some p) e = rw (payload_heard p) (by_kind p.kind p.payload e)
  where
    by_signals : (r : Result Signals (Refused SigWhy)) → begun_by (signals_by r) ≡ None
    by_signals (Ok v) = refl
    by_signals (Err e) = refl

    by_kind : (k : Kind) (payload : List ℕ) → if_media k payload ≡ None → begun_by (payload_by k payload) ≡ None
    by_kind kinds.Mpu payload e = absurd cc
    by_kind kinds.Generic payload e = refl
    by_kind kinds.Signalling payload e = by_signals (signals_of payload)

pub spelled-media : (o : Option Kept) (bytes : List ℕ) → media_at o ≡ Some bytes → spelled_at o ≡ media_of (payload_of bytes)
spelled-media None bytes e = absurd cc
spelled-media (Some p) bytes e = payload_heard p ∙ by_kind p.kind p.payload e
  where
    by_kind : (k : Kind) (payload : List ℕ) → if_media k payload ≡ Some bytes → payload_by k payload ≡ media_of (payload_of bytes)
    by_kind kinds.Mpu payload e = let s : payload ≡ bytes = cc in ap (λ b. media_of (payload_of b)) s
    by_kind kinds.Generic payload e = absurd cc
    by_kind kinds.Signalling payload e = absurd cc

pub spelled-refused : (o : Option Kept) (bytes : List ℕ) (e : Refused MpuWhy) → media_at o ≡ Some bytes → payload_of bytes ≡ Err e → begun_by (spelled_at o) ≡ None
spelled-refused o bytes e m r = rw (spelled-media o bytes m, r) refl

spelled-value : (o : Option Kept) (bytes : List ℕ) (v : Value) (part : Part) → media_at o ≡ Some bytes → payload_of bytes ≡ Ok v → v.head.part ≡ part → spelled_at o ≡ Payload.Media part v.head.timed v.head.mpu (map data_unit_of v.units)
spelled-value o bytes v part m r p = spelled-media o bytes m ∙ (ap media_of r ∙ ap (λ x. Payload.Media x v.head.timed v.head.mpu (map data_unit_of v.units)) p)

pub begins-whole : (o : Option Kept) (bytes : List ℕ) (v : Value) → media_at o ≡ Some bytes → payload_of bytes ≡ Ok v → v.head.part ≡ parts.Whole → Begins (spelled_at o) (Some v)
begins-whole o bytes v m r p = rw (spelled-value o bytes v parts.Whole m r p) (refl, refl)

pub begins-first : (o : Option Kept) (bytes : List ℕ) (v : Value) → media_at o ≡ Some bytes → payload_of bytes ≡ Ok v → v.head.part ≡ parts.First → Begins (spelled_at o) (Some v)
begins-first o bytes v m r p = rw (spelled-value o bytes v parts.First m r p) (refl, refl)

pub begins-middle : (o : Option Kept) (bytes : List ℕ) (v : Value) → media_at o ≡ Some bytes → payload_of bytes ≡ Ok v → v.head.part ≡ parts.Middle → Begins (spelled_at o) None
begins-middle o bytes v m r p = rw (spelled-value o bytes v parts.Middle m r p) refl

pub begins-last : (o : Option Kept) (bytes : List ℕ) (v : Value) → media_at o ≡ Some bytes → payload_of bytes ≡ Ok v → v.head.part ≡ parts.Last → Begins (spelled_at o) None
begins-last o bytes v m r p = rw (spelled-value o bytes v parts.Last m r p) refl
