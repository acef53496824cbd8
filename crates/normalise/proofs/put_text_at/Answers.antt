-- `normalise::put_text_at` meets its contract: by the kind of the record. Assumes nothing.
use Rattle.std.proofs.Common.{arith}
use Rattle.octets.specs.Filling.{wrote_as}
use Rattle.ident.specs.IdentLaws.{uuid-length}
use Rattle.normalise.specs.PackLaws.{fits_as, named_here, text-eisa, text-uuid, text_template, text-own, slender-here, none-wrote}
use Rattle.normalise.proofs.put_text_at.Goals as goal

pub returns-in-57345 : goal.returns-in-57345
returns-in-57345 c = none-wrote _ _ (text-eisa _ _ _ c.record_at-r.ensures c.text_of-text.ensures c.in-57345.is)

pub put_uuid-requires : goal.put_uuid-requires
put_uuid-requires c =
    let e = text-uuid c.args.terms.now.records.now c.args.terms.now.pool.now c.args.i c.record_at-r.ensures c.text_of-text.ensures c.in-57346.is in
    ((named_here c.args.terms.now.sound c.requires.1 c.record_at-r.ensures c.text_of-text.ensures).uuid c.in-57346.is, omega (arith, fits_as e c.requires.2, uuid-length c.text_of-text.result.now))

pub returns-in-57346 : goal.returns-in-57346
returns-in-57346 c = wrote_as (text-uuid _ _ _ c.record_at-r.ensures c.text_of-text.ensures c.in-57346.is) c.put_uuid.ensures

pub put_template-requires : goal.put_template-requires
put_template-requires c =
    (slender-here _ _ _ c.record_at-r.ensures c.text_of-text.ensures c.requires.0 c.requires.1, fits_as (text_template _ _ _ c.record_at-r.ensures c.text_of-text.ensures c.in-57347.is) c.requires.2)

pub returns-in-57347 : goal.returns-in-57347
returns-in-57347 c = wrote_as (text_template _ _ _ c.record_at-r.ensures c.text_of-text.ensures c.in-57347.is) c.put_template.ensures

pub put_slice-requires : goal.put_slice-requires
put_slice-requires c =
    fits_as (text-own _ _ _ c.record_at-r.ensures c.text_of-text.ensures (λ z. omega arith) (λ z. omega arith) (λ z. omega arith)) c.requires.2

pub returns-in_default : goal.returns-in_default
returns-in_default c =
    wrote_as (text-own _ _ _ c.record_at-r.ensures c.text_of-text.ensures (λ z. omega arith) (λ z. omega arith) (λ z. omega arith)) c.put_slice.ensures
