use Rattle.std.proofs.Common.{ℕ, refl, arith, rules, ◌≡◌, ◌∙◌, ◌≤◌, ap, length, List, true, false, is_some}
use Rattle.mmt_pool.specs.declared.types.Span.{Span}
use Rattle.mmt_pool.specs.declared.pool.Stored.{Stored}
use Rattle.mmt_pool.specs.Holding.{Kept, held, HasRoom, IsKeepable}
use Rattle.mmt_pool.specs.Stored.{key_of, entry_of}
use Rattle.mmt_pool.specs.Doing.{of_packet}
use Rattle.mmt_pool.proofs.Keeping.{any_of, unchanged, none_queued_at, same_packet, holding_new, kept_new}
use Rattle.mmt_pool.proofs.pool.Pool.keep.Goals as goal

pub returns-in-Ok-Occupied-clause-keeps : goal.returns-in-Ok-Occupied-clause-keeps
returns-in-Ok-Occupied-clause-keeps c =
    let f = rw (c.in-Ok-Occupied.field-0-is, c.key_of.ensures) at c.in-Ok-Occupied.ensures.found in
    (any_of true (of_packet c.args.packet.now) c.args.span c.self.inside.packets.entries c.args.self.now _ _ (omega (arith, ap (λ (x : Span). x.number) c.requires.span)) c.requires.span c.self.view_is f.0, unchanged _ c.self.inside.packets.entries _ _ _ c.self.view_is (search rules))

pub returns-then-is_full-clause-keeps : goal.returns-then-is_full-clause-keeps
returns-then-is_full-clause-keeps c =
    let t : c.self.inside.total ≡ held c.args.self.now.kept = c.self.invariant.sum ∙ ap (λ w. held w.kept) c.self.view_is in
    let b : c.self.inside.bound ≡ c.args.self.now.bound = ap (λ w. w.bound) c.self.view_is in
    (any_of false (of_packet c.args.packet.now) c.args.span c.self.inside.packets.entries c.args.self.now _ _ (omega (arith, ap (λ (x : Span). x.number) c.requires.span)) c.requires.span c.self.view_is (ap is_some (rw c.key_of.ensures at c.in-Err.ensures.absent)), omega (arith, t, b, c.if-is_full.true), t, refl, unchanged _ c.self.inside.packets.entries _ _ _ c.self.view_is (search rules))

pub returns-in-Err-clause-keeps : goal.returns-in-Err-clause-keeps
returns-in-Err-clause-keeps c =
    let t : c.self.inside.total ≡ held c.args.self.now.kept = c.self.invariant.sum ∙ ap (λ w. held w.kept) c.self.view_is in
    let b : c.self.inside.bound ≡ c.args.self.now.bound = ap (λ w. w.bound) c.self.view_is in
    let m : held c.args.self.now.kept ≤ c.args.self.now.bound = omega (arith, t, b, c.self.invariant.sum, c.self.invariant.sound.within_peak, c.self.invariant.sound.within_bound) in (
      record {
        absent = any_of false (of_packet c.args.packet.now) c.args.span c.self.inside.packets.entries c.args.self.now _ _ (omega (arith, ap (λ (x : Span). x.number) c.requires.span)) c.requires.span c.self.view_is (ap is_some (rw c.key_of.ensures at c.in-Err.ensures.absent));
        room = omega (arith, t, b, m, c.if-is_full.false);
      },
      unchanged _ c.self.inside.packets.entries _ _ _ c.self.view_is (search rules),
    )

pub returns-then-is_full-2-clause-keeps : goal.returns-then-is_full-2-clause-keeps
returns-then-is_full-2-clause-keeps c =
    let f = rw (c.in-Ok-Vacant.field-0-is, c.key_of.ensures) at c.in-Ok-Vacant.ensures.found in
    let t : c.self.inside.total ≡ held c.args.self.now.kept = c.self.invariant.sum ∙ ap (λ w. held w.kept) c.self.view_is in
    let b : c.self.inside.bound ≡ c.args.self.now.bound = ap (λ w. w.bound) c.self.view_is in
    (any_of false (of_packet c.args.packet.now) c.args.span c.self.inside.packets.entries c.args.self.now _ _ (omega (arith, ap (λ (x : Span). x.number) c.requires.span)) c.requires.span c.self.view_is (ap is_some f), omega (arith, t, b, c.if-is_full-2.true), t, refl, unchanged _ c.self.inside.packets.entries _ _ _ c.self.view_is (search rules))

pub returns-in-Err-payload_from-clause-keeps : goal.returns-in-Err-payload_from-clause-keeps
returns-in-Err-payload_from-clause-keeps c =
    let f = rw (c.in-Ok-Vacant.field-0-is, c.key_of.ensures) at c.in-Ok-Vacant.ensures.found in
    let t : c.self.inside.total ≡ held c.args.self.now.kept = c.self.invariant.sum ∙ ap (λ w. held w.kept) c.self.view_is in
    let b : c.self.inside.bound ≡ c.args.self.now.bound = ap (λ w. w.bound) c.self.view_is in
    let m : held c.args.self.now.kept ≤ c.args.self.now.bound = omega (arith, t, b, c.self.invariant.sum, c.self.invariant.sound.within_peak, c.self.invariant.sound.within_bound) in (
      record {
        absent = any_of false (of_packet c.args.packet.now) c.args.span c.self.inside.packets.entries c.args.self.now _ _ (omega (arith, ap (λ (x : Span). x.number) c.requires.span)) c.requires.span c.self.view_is (ap is_some f);
        room = omega (arith, t, b, m, c.if-is_full-2.false);
      },
      unchanged _ c.self.inside.packets.entries _ _ _ c.self.view_is (search rules),
    )

pub returns-in-Err-put-clause-keeps : goal.returns-in-Err-put-clause-keeps
returns-in-Err-put-clause-keeps c =
    let f = rw (c.in-Ok-Vacant.field-0-is, c.key_of.ensures) at c.in-Ok-Vacant.ensures.found in
    let t : c.self.inside.total ≡ held c.args.self.now.kept = c.self.invariant.sum ∙ ap (λ w. held w.kept) c.self.view_is in
    let b : c.self.inside.bound ≡ c.args.self.now.bound = ap (λ w. w.bound) c.self.view_is in
    let m : held c.args.self.now.kept ≤ c.args.self.now.bound = omega (arith, t, b, c.self.invariant.sum, c.self.invariant.sound.within_peak, c.self.invariant.sound.within_bound) in (
      record {
        absent = any_of false (of_packet c.args.packet.now) c.args.span c.self.inside.packets.entries c.args.self.now _ _ (omega (arith, ap (λ (x : Span). x.number) c.requires.span)) c.requires.span c.self.view_is (ap is_some f);
        room = omega (arith, t, b, m, c.if-is_full-2.false);
      },
      unchanged _ c.self.inside.packets.entries _ _ _ c.self.view_is (search rules),
    )

pub put-requires : goal.put-requires
put-requires c =
    let f = rw (c.in-Ok-Vacant.field-0-is, c.key_of.ensures) at c.in-Ok-Vacant.ensures.found in
    record { absent = none_queued_at c.self.inside.queue c.self.inside.packets.entries (record { time = c.args.packet.now.time.0; span = c.args.span }) (omega arith) c.self.invariant.tied f }

pub invariant_of-self-2 : goal.invariant_of-self-2
invariant_of-self-2 c =
    let p : Kept = of_packet c.args.packet.now in
    let v : Stored = record { time = c.args.packet.now.time; kind = c.args.packet.now.kind; payload = c.in-Ok.payload } in
    let es : List (ℕ × Stored) = c.self.inside.packets.entries in
    let f = rw (c.in-Ok-Vacant.field-0-is, c.key_of.ensures) at c.in-Ok-Vacant.ensures.found in
    let u = rw (c.in-Ok-Vacant.field-0-is, c.key_of.ensures) at c.in-Ok-Vacant.ensures.update in
    let w = c.insert_entry.ensures.1 in
    let e : c.in-Ok.payload ≡ c.args.packet.now.payload.now = c.in-Ok.ensures in
    let same : entry_of (key_of c.args.span, v) ≡ p = same_packet c.args.span v p (omega (arith, ap (λ (x : Span). x.number) c.requires.span)) c.requires.span refl refl e in
    let t : c.self.inside.total ≡ held c.args.self.now.kept = c.self.invariant.sum ∙ ap (λ w. held w.kept) c.self.view_is in
    let b : c.self.inside.bound ≡ c.args.self.now.bound = ap (λ w. w.bound) c.self.view_is in
    let m : held c.args.self.now.kept ≤ c.args.self.now.bound = omega (arith, t, b, c.self.invariant.sum, c.self.invariant.sound.within_peak, c.self.invariant.sound.within_bound) in
    let r : HasRoom c.args.self.now p = record {
      absent = any_of false p c.args.span es c.args.self.now _ _ (omega (arith, ap (λ (x : Span). x.number) c.requires.span)) c.requires.span c.self.view_is (ap is_some f);
      room = omega (arith, t, b, m, c.if-is_full-2.false);
    } in
    let k : IsKeepable p = record { kind = c.requires.kind; number = omega (arith, ap (λ (x : Span). x.number) c.requires.span); short = c.requires.short } in
    kept_new c.args.span v es _ _ c.self.inside.queue c.put.new.self c.self.inside.total c.self.inside.bound c.self.inside.peak c.max-self-inside.result (length c.args.packet.now.payload.now) c.args.self.now p (omega arith) same c.self.view_is (ap length e) c.self.invariant f (search rules) (u.1 v) (u.0 v).0 c.in_default.ensures.ok c.max-self-inside.ensures r k

pub returns-clause-sound : goal.returns-clause-sound
returns-clause-sound c =
    let p : Kept = of_packet c.args.packet.now in
    let v : Stored = record { time = c.args.packet.now.time; kind = c.args.packet.now.kind; payload = c.in-Ok.payload } in
    let es : List (ℕ × Stored) = c.self.inside.packets.entries in
    let f = rw (c.in-Ok-Vacant.field-0-is, c.key_of.ensures) at c.in-Ok-Vacant.ensures.found in
    let u = rw (c.in-Ok-Vacant.field-0-is, c.key_of.ensures) at c.in-Ok-Vacant.ensures.update in
    let w = c.insert_entry.ensures.1 in
    let e : c.in-Ok.payload ≡ c.args.packet.now.payload.now = c.in-Ok.ensures in
    let same : entry_of (key_of c.args.span, v) ≡ p = same_packet c.args.span v p (omega (arith, ap (λ (x : Span). x.number) c.requires.span)) c.requires.span refl refl e in
    let t : c.self.inside.total ≡ held c.args.self.now.kept = c.self.invariant.sum ∙ ap (λ w. held w.kept) c.self.view_is in
    let b : c.self.inside.bound ≡ c.args.self.now.bound = ap (λ w. w.bound) c.self.view_is in
    let m : held c.args.self.now.kept ≤ c.args.self.now.bound = omega (arith, t, b, c.self.invariant.sum, c.self.invariant.sound.within_peak, c.self.invariant.sound.within_bound) in
    let r : HasRoom c.args.self.now p = record {
      absent = any_of false p c.args.span es c.args.self.now _ _ (omega (arith, ap (λ (x : Span). x.number) c.requires.span)) c.requires.span c.self.view_is (ap is_some f);
      room = omega (arith, t, b, m, c.if-is_full-2.false);
    } in
    let k : IsKeepable p = record { kind = c.requires.kind; number = omega (arith, ap (λ (x : Span). x.number) c.requires.span); short = c.requires.short } in
    (kept_new c.args.span v es _ _ c.self.inside.queue c.put.new.self c.self.inside.total c.self.inside.bound c.self.inside.peak c.max-self-inside.result (length c.args.packet.now.payload.now) c.args.self.now p (omega arith) same c.self.view_is (ap length e) c.self.invariant f (search rules) (u.1 v) (u.0 v).0 c.in_default.ensures.ok c.max-self-inside.ensures r k).sound

pub returns-clause-keeps : goal.returns-clause-keeps
returns-clause-keeps c =
    let p : Kept = of_packet c.args.packet.now in
    let v : Stored = record { time = c.args.packet.now.time; kind = c.args.packet.now.kind; payload = c.in-Ok.payload } in
    let es : List (ℕ × Stored) = c.self.inside.packets.entries in
    let f = rw (c.in-Ok-Vacant.field-0-is, c.key_of.ensures) at c.in-Ok-Vacant.ensures.found in
    let u = rw (c.in-Ok-Vacant.field-0-is, c.key_of.ensures) at c.in-Ok-Vacant.ensures.update in
    let w = c.insert_entry.ensures.1 in
    let e : c.in-Ok.payload ≡ c.args.packet.now.payload.now = c.in-Ok.ensures in
    let same : entry_of (key_of c.args.span, v) ≡ p = same_packet c.args.span v p (omega (arith, ap (λ (x : Span). x.number) c.requires.span)) c.requires.span refl refl e in
    let t : c.self.inside.total ≡ held c.args.self.now.kept = c.self.invariant.sum ∙ ap (λ w. held w.kept) c.self.view_is in
    let b : c.self.inside.bound ≡ c.args.self.now.bound = ap (λ w. w.bound) c.self.view_is in
    let m : held c.args.self.now.kept ≤ c.args.self.now.bound = omega (arith, t, b, c.self.invariant.sum, c.self.invariant.sound.within_peak, c.self.invariant.sound.within_bound) in
    let r : HasRoom c.args.self.now p = record {
      absent = any_of false p c.args.span es c.args.self.now _ _ (omega (arith, ap (λ (x : Span). x.number) c.requires.span)) c.requires.span c.self.view_is (ap is_some f);
      room = omega (arith, t, b, m, c.if-is_full-2.false);
    } in
    (r, holding_new c.args.span v es _ _ c.self.inside.total c.self.inside.bound c.self.inside.peak c.max-self-inside.result (length c.args.packet.now.payload.now) c.args.self.now p (omega arith) same c.self.view_is (ap length e) c.self.invariant.sum f (search rules) (u.1 v) c.max-self-inside.ensures)
