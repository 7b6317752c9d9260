use Rattle.std.proofs.Common.{refl, [], ◌∷◌}
use Rattle.dh_fields.proofs.Forms.{IsOther, named, no_text, unknown}
use Rattle.dh_fields.specs.Lines.{assign_form, branch_form, client_form, command_forms, comment_form, end_form, fee_form, inspection_form, lease_form}
use Rattle.dh_fields.specs.Lines.{open_form, owner_form, post_form, property_form, receipt_form, register_form, rent_form, run_form, staff_form, viewing_form}
use Rattle.dh_fields.proofs.commands.read_command.Goals as goal

pub returns-in_err-text : goal.returns-in_err-text
returns-in_err-text c = no_text command_forms 1 c.args.line.now refl refl _ _ _ c.from_residual.ensures.1 c.in_err-text.ensures

pub returns-in-branch : goal.returns-in-branch
returns-in-branch c = named command_forms 1 c.args.line.now branch_form _ _ c.in_ok-text.ensures c.in-branch.is refl c.read_branch.ensures

pub returns-in-fee : goal.returns-in-fee
returns-in-fee c = named command_forms 1 c.args.line.now fee_form _ _ c.in_ok-text.ensures c.in-fee.is refl c.read_fee.ensures

pub returns-in-staff : goal.returns-in-staff
returns-in-staff c = named command_forms 1 c.args.line.now staff_form _ _ c.in_ok-text.ensures c.in-staff.is refl c.read_staff.ensures

pub returns-in-owner : goal.returns-in-owner
returns-in-owner c = named command_forms 1 c.args.line.now owner_form _ _ c.in_ok-text.ensures c.in-owner.is refl c.read_owner.ensures

pub returns-in-property : goal.returns-in-property
returns-in-property c = named command_forms 1 c.args.line.now property_form _ _ c.in_ok-text.ensures c.in-property.is refl c.read_property.ensures

pub returns-in-assign : goal.returns-in-assign
returns-in-assign c = named command_forms 1 c.args.line.now assign_form _ _ c.in_ok-text.ensures c.in-assign.is refl c.read_assign.ensures

pub returns-in-rent : goal.returns-in-rent
returns-in-rent c = named command_forms 1 c.args.line.now rent_form _ _ c.in_ok-text.ensures c.in-rent.is refl c.read_rent.ensures

pub returns-in-client : goal.returns-in-client
returns-in-client c = named command_forms 1 c.args.line.now client_form _ _ c.in_ok-text.ensures c.in-client.is refl c.read_client.ensures

pub returns-in-register : goal.returns-in-register
returns-in-register c = named command_forms 1 c.args.line.now register_form _ _ c.in_ok-text.ensures c.in-register.is refl c.read_register.ensures

pub returns-in-viewing : goal.returns-in-viewing
returns-in-viewing c = named command_forms 1 c.args.line.now viewing_form _ _ c.in_ok-text.ensures c.in-viewing.is refl c.read_viewing.ensures

pub returns-in-comment : goal.returns-in-comment
returns-in-comment c = named command_forms 1 c.args.line.now comment_form _ _ c.in_ok-text.ensures c.in-comment.is refl c.read_comment.ensures

pub returns-in-inspection : goal.returns-in-inspection
returns-in-inspection c = named command_forms 1 c.args.line.now inspection_form _ _ c.in_ok-text.ensures c.in-inspection.is refl c.read_inspection.ensures

pub returns-in-lease : goal.returns-in-lease
returns-in-lease c = named command_forms 1 c.args.line.now lease_form _ _ c.in_ok-text.ensures c.in-lease.is refl c.read_lease.ensures

pub returns-in-end : goal.returns-in-end
returns-in-end c = named command_forms 1 c.args.line.now end_form _ _ c.in_ok-text.ensures c.in-end.is refl c.read_end.ensures

pub returns-in-receipt : goal.returns-in-receipt
returns-in-receipt c = named command_forms 1 c.args.line.now receipt_form _ _ c.in_ok-text.ensures c.in-receipt.is refl c.read_receipt.ensures

pub returns-in-run : goal.returns-in-run
returns-in-run c = named command_forms 1 c.args.line.now run_form _ _ c.in_ok-text.ensures c.in-run.is refl c.read_run.ensures

pub returns-in-open : goal.returns-in-open
returns-in-open c = named command_forms 1 c.args.line.now open_form _ _ c.in_ok-text.ensures c.in-open.is refl c.read_open.ensures

pub returns-in-post : goal.returns-in-post
returns-in-post c = named command_forms 1 c.args.line.now post_form _ _ c.in_ok-text.ensures c.in-post.is refl c.read_post.ensures

pub returns-in_default : goal.returns-in_default
returns-in_default c =
    let no = c.in_default in
    let last : IsOther (lease_form ∷ end_form ∷ receipt_form ∷ run_form ∷ open_form ∷ post_form ∷ []) _ =
    (no.not-lease, (no.not-end, (no.not-receipt, (no.not-run, (no.not-open, (no.not-post, tt)))))) in
    let later : IsOther (rent_form ∷ client_form ∷ register_form ∷ viewing_form ∷ comment_form ∷ inspection_form ∷ lease_form ∷ end_form ∷ receipt_form
    ∷ run_form ∷ open_form ∷ post_form ∷ []) _ =
    (no.not-rent, (no.not-client, (no.not-register, (no.not-viewing, (no.not-comment, (no.not-inspection, last)))))) in
    unknown command_forms 1 c.args.line.now _ c.in_ok-text.ensures
    (no.not-branch, (no.not-fee, (no.not-staff, (no.not-owner, (no.not-property, (no.not-assign, later))))))
