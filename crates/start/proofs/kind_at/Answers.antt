-- `start::kind_at` meets its contract: each end of the code is one of `kind_at`. Assumes nothing.
use Rattle.std.specs.Prelude.{◌≡◌, true, false}
use Rattle.std.proofs.Common.{sym, ◌∙◌, true≢false}
use Rattle.grammar.specs.declared.Place.TheVariants.{FieldEntry}
use Rattle.grammar.specs.Kinds.{is}
use Rattle.tree.specs.Read.{twofold}
use Rattle.start.specs.StartLaws.{no_entry, two_bytes, one_byte, kind-entry, kind-twofold, kind_family}
use Rattle.start.proofs.kind_at.Goals.{in-FieldEntry, in_default, in-91, in_default-matches}
use Rattle.start.proofs.kind_at.Goals as goal

pub returns-then-matches : goal.returns-then-matches
returns-then-matches c =
    let m = c.if-matches.true in
    let e : c.args.place ≡ FieldEntry =
    elim c.match-matches.branch [ in-FieldEntry w ↦ w.in-FieldEntry.is | in_default w ↦ absurd (true≢false (sym m ∙ w.matches-is)) ] in
    kind-entry _ _ _ c.requires c.from-c.ensures e c.entry_of.ensures

pub returns-then-matches-2 : goal.returns-then-matches-2
returns-then-matches-2 c =
    let m = c.if-matches.false in
    let n = c.if-matches-2.true in
    let ne : is c.args.place FieldEntry ≡ false =
    elim c.match-matches.branch [ in-FieldEntry w ↦ absurd (true≢false (sym w.matches-is ∙ m)) | in_default w ↦ no_entry _ w.in_default.not-FieldEntry ] in
    let t : twofold c.from-c.result ≡ true =
    elim c.match-matches-2.branch [ in-91 w ↦ two_bytes _ w.in-91.is | in_default-matches w ↦ absurd (true≢false (sym n ∙ w.matches-is)) ] in
    kind-twofold _ _ _ c.requires c.from-c.ensures ne t c.byte_at.ensures.0

pub returns : goal.returns
returns c =
    let m = c.if-matches.false in
    let n = c.if-matches-2.false in
    let ne : is c.args.place FieldEntry ≡ false =
    elim c.match-matches.branch [ in-FieldEntry w ↦ absurd (true≢false (sym w.matches-is ∙ m)) | in_default w ↦ no_entry _ w.in_default.not-FieldEntry ] in
    let t : twofold c.from-c.result ≡ false =
    elim c.match-matches-2.branch [ in-91 w ↦ absurd (true≢false (sym w.matches-is ∙ n)) | in_default-matches w ↦ search one_byte ] in
    kind_family _ _ _ c.requires c.from-c.ensures ne t (c.from.ensures ∙ c.family.ensures)
