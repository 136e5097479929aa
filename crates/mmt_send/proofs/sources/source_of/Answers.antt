use Rattle.std.proofs.Common.{◌≡◌, ap}
use Rattle.mmt_cast.specs.Right.{unit_at}
use Rattle.mmt_model.specs.declared.casts.SentUnit.{SentUnit}
use Rattle.mmt_model.specs.declared.keys.UnitKey.TheVariants as keys
use Rattle.mmt_model.specs.declared.programmes.Asset.{Asset}
use Rattle.mmt_model.specs.declared.programmes.Mpu.{Mpu}
use Rattle.mmt_send.proofs.Standing.{asset-fits, asset-is, file-fits, listed, mpu-fits, mpu-is, name-is, unit-fits, unit-is}
use Rattle.mmt_send.proofs.sources.source_of.Goals as goal

-- what a read past the end of the units would give
abbrev none_sent : SentUnit
none_sent = record { asset = 0; mpu = 0; unit = 0; key = keys.Timed 0 0 0; time = record { 0 = 0 }; due = record { 0 = 0 }; first = record { 0 = 0 }; last = record { 0 = 0 }; first_number = 0; count = 0 }

pub bounds-sent_units-number : goal.bounds-sent_units-number
bounds-sent_units-number c = listed c.args.programme.now c.args.cast.now c.args.number c.requires.right c.requires.cast c.requires.known c.as_slice-sent_units.result.now c.as_slice-sent_units.ensures none_sent

pub bounds-assets-sent : goal.bounds-assets-sent
bounds-assets-sent c = asset-fits c.args.programme.now c.args.cast.now c.args.number c.requires.right c.requires.cast c.requires.known c.as_slice-sent_units.result.now c.as_slice-sent_units.ensures none_sent c.as_slice-assets.result.now c.as_slice-assets.ensures

pub bounds-mpus-sent : goal.bounds-mpus-sent
bounds-mpus-sent c =
    let asset : c.index-assets-sent.result ≡ (unit_at c.args.programme.now c.args.number).in_mpu.in_asset = asset-is c.args.programme.now c.args.cast.now c.args.number c.requires.right c.requires.cast c.requires.known c.as_slice-sent_units.result.now c.as_slice-sent_units.ensures none_sent c.as_slice-assets.result.now c.index-assets-sent.result c.as_slice-assets.ensures c.index-assets-sent.is in
    mpu-fits c.args.programme.now c.args.cast.now c.args.number c.requires.right c.requires.cast c.requires.known c.as_slice-sent_units.result.now c.as_slice-sent_units.ensures none_sent c.index-assets-sent.result c.as_slice-mpus.result.now asset c.as_slice-mpus.ensures

pub bounds-units-sent : goal.bounds-units-sent
bounds-units-sent c =
    let asset : c.index-assets-sent.result ≡ (unit_at c.args.programme.now c.args.number).in_mpu.in_asset = asset-is c.args.programme.now c.args.cast.now c.args.number c.requires.right c.requires.cast c.requires.known c.as_slice-sent_units.result.now c.as_slice-sent_units.ensures none_sent c.as_slice-assets.result.now c.index-assets-sent.result c.as_slice-assets.ensures c.index-assets-sent.is in
    let mpu : c.index-mpus-sent.result ≡ (unit_at c.args.programme.now c.args.number).in_mpu.value = mpu-is c.args.programme.now c.args.cast.now c.args.number c.requires.right c.requires.cast c.requires.known c.as_slice-sent_units.result.now c.as_slice-sent_units.ensures none_sent c.index-assets-sent.result c.as_slice-mpus.result.now c.index-mpus-sent.result asset c.as_slice-mpus.ensures c.index-mpus-sent.is in
    unit-fits c.args.programme.now c.args.cast.now c.args.number c.requires.right c.requires.cast c.requires.known c.as_slice-sent_units.result.now c.as_slice-sent_units.ensures none_sent c.index-mpus-sent.result c.as_slice-units.result.now mpu c.as_slice-units.ensures

pub bounds-files-asset : goal.bounds-files-asset
bounds-files-asset c =
    let asset : c.index-assets-sent.result ≡ (unit_at c.args.programme.now c.args.number).in_mpu.in_asset = asset-is c.args.programme.now c.args.cast.now c.args.number c.requires.right c.requires.cast c.requires.known c.as_slice-sent_units.result.now c.as_slice-sent_units.ensures none_sent c.as_slice-assets.result.now c.index-assets-sent.result c.as_slice-assets.ensures c.index-assets-sent.is in
    file-fits c.args.programme.now c.args.cast.now c.args.number c.requires.right c.requires.cast c.requires.known c.as_slice-sent_units.result.now c.as_slice-sent_units.ensures none_sent c.index-assets-sent.result c.as_slice-files.result.now asset c.as_slice-files.ensures

pub returns-clause-source : goal.returns-clause-source
returns-clause-source c =
    let asset : c.index-assets-sent.result ≡ (unit_at c.args.programme.now c.args.number).in_mpu.in_asset = asset-is c.args.programme.now c.args.cast.now c.args.number c.requires.right c.requires.cast c.requires.known c.as_slice-sent_units.result.now c.as_slice-sent_units.ensures none_sent c.as_slice-assets.result.now c.index-assets-sent.result c.as_slice-assets.ensures c.index-assets-sent.is in
    let mpu : c.index-mpus-sent.result ≡ (unit_at c.args.programme.now c.args.number).in_mpu.value = mpu-is c.args.programme.now c.args.cast.now c.args.number c.requires.right c.requires.cast c.requires.known c.as_slice-sent_units.result.now c.as_slice-sent_units.ensures none_sent c.index-assets-sent.result c.as_slice-mpus.result.now c.index-mpus-sent.result asset c.as_slice-mpus.ensures c.index-mpus-sent.is in
    record {
      known = c.requires.known;
      unit = unit-is c.args.programme.now c.args.cast.now c.args.number c.requires.right c.requires.cast c.requires.known c.as_slice-sent_units.result.now c.as_slice-sent_units.ensures none_sent c.index-mpus-sent.result c.as_slice-units.result.now _ mpu c.as_slice-units.ensures;
      timed = ap (λ (a : Asset). a.timed) asset;
      mpu = ap (λ (m : Mpu). m.number) mpu;
      name = name-is c.args.programme.now c.args.cast.now c.args.number c.requires.right c.requires.cast c.requires.known c.as_slice-sent_units.result.now c.as_slice-sent_units.ensures none_sent c.index-assets-sent.result c.as_slice-files.result.now c.index-files-asset.result c.as_str.result.now asset c.as_slice-files.ensures c.index-files-asset.is c.as_str.ensures;
    }
