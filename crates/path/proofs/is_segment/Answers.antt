-- `path::is_segment` meets its contract: by its four characters, where they are there. Assumes nothing.
use Rattle.std.proofs.Common.{◌≡◌, get_or, Bool, true, false, ◌&&◌, refl, sym, ◌∙◌, ⊎_elim, arith}
use Rattle.path.specs.Path.{lead_name, name_char}
use Rattle.path.specs.PathText.{segment-short, segment-few, segment-is}
use Rattle.path.proofs.is_segment.Goals.{then-is_lead, else-is_lead, then-is_name_char, else-is_name_char}
use Rattle.path.proofs.is_segment.Goals as goal

-- the value of `p && q` on either way
and_then : {p q v : Bool} → p ≡ true → v ≡ q → v ≡ p && q
and_then e f = rw (e, f) refl

and_else : {p v : Bool} (q : Bool) → p ≡ false → v ≡ p → v ≡ p && q
and_else q e f = rw (f, e) refl

pub returns-then-is_name_char-2 : goal.returns-then-is_name_char-2
returns-then-is_name_char-2 c =
    let s = c.in-Some.rest.now in
    let two : c.if-is_lead.value ≡ lead_name (get_or s 0 0) && name_char (get_or s 1 0) = elim c.if-is_lead.branch [
      | then-is_lead w ↦ and_then (sym c.is_lead.ensures ∙ w.if-is_lead.true) (w.value-is ∙ w.is_name_char.ensures)
      | else-is_lead w ↦ and_else _ (sym c.is_lead.ensures ∙ w.if-is_lead.false) (w.value-is ∙ c.is_lead.ensures)
    ] in
    let three : c.if-is_name_char.value ≡ lead_name (get_or s 0 0) && name_char (get_or s 1 0) && name_char (get_or s 2 0) = elim c.if-is_name_char.branch [
      | then-is_name_char w ↦ and_then (sym two ∙ w.if-is_name_char.true) (w.value-is ∙ w.is_name_char-then-is_name_char.ensures)
      | else-is_name_char w ↦ and_else _ (sym two ∙ w.if-is_name_char.false) (w.value-is ∙ two)
    ] in
    and_then (sym three ∙ c.if-is_name_char-2.true) c.is_name_char-then-is_name_char-2.ensures
    ∙ segment-is c.args.b.now c.args.at c.in-Some.ensures.lookup.0.2 c.in-len4-up.len_at_least

pub returns-else-is_name_char-2 : goal.returns-else-is_name_char-2
returns-else-is_name_char-2 c =
    let s = c.in-Some.rest.now in
    let two : c.if-is_lead.value ≡ lead_name (get_or s 0 0) && name_char (get_or s 1 0) = elim c.if-is_lead.branch [
      | then-is_lead w ↦ and_then (sym c.is_lead.ensures ∙ w.if-is_lead.true) (w.value-is ∙ w.is_name_char.ensures)
      | else-is_lead w ↦ and_else _ (sym c.is_lead.ensures ∙ w.if-is_lead.false) (w.value-is ∙ c.is_lead.ensures)
    ] in
    let three : c.if-is_name_char.value ≡ lead_name (get_or s 0 0) && name_char (get_or s 1 0) && name_char (get_or s 2 0) = elim c.if-is_name_char.branch [
      | then-is_name_char w ↦ and_then (sym two ∙ w.if-is_name_char.true) (w.value-is ∙ w.is_name_char-then-is_name_char.ensures)
      | else-is_name_char w ↦ and_else _ (sym two ∙ w.if-is_name_char.false) (w.value-is ∙ two)
    ] in
    and_else _ (sym three ∙ c.if-is_name_char-2.false) three
    ∙ segment-is c.args.b.now c.args.at c.in-Some.ensures.lookup.0.2 c.in-len4-up.len_at_least

pub returns-in_default : goal.returns-in_default
returns-in_default c = ⊎_elim (λ h. segment-short _ _ (omega (arith, h))) (λ h. absurd (omega (arith, h))) c.in_default.ensures.lookup.0

pub returns-in_default-rest : goal.returns-in_default-rest
returns-in_default-rest c = segment-few c.args.b.now c.args.at c.in-Some.ensures.lookup.0.2 c.in_default-rest.len_below
