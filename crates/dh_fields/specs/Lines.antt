-- Which request the fields of a line are.
use Rattle.std.specs.Prelude.{◌≡◌, ℕ, ◌+◌, Bool, if◌then◌else◌, List, [], ◌∷◌, map, drop, slice_index_or, codes, bytes_eq}
use Rattle.std.specs.Prelude.{Option, Some, None, Result, Ok, Err}
use Rattle.dh_types.specs.declared.command.Command.{Command}
use Rattle.dh_types.specs.declared.command.Command.TheVariants as command
use Rattle.dh_types.specs.declared.question.Question.{Question}
use Rattle.dh_types.specs.declared.question.Question.TheVariants as question
use Rattle.dh_types.specs.declared.reply.Refusal.{Refusal}
use Rattle.dh_types.specs.declared.reply.Refusal.TheVariants.{BadLine}
use Rattle.dh_fields.specs.FieldKinds.{FieldKind, amount, batch_count, comment, day, fee, id, key, lease_no, method, month, months, optional, position}
use Rattle.dh_fields.specs.FieldKinds.{property_type, receipt_kind, rent, rooms, text60}
use Rattle.dh_types.specs.declared.request.Request.{Request}
use Rattle.dh_types.specs.declared.request.Request.TheVariants as request

-- the fields of a line
abbrev pub Fields : Type 0
Fields = List (List ℕ)

-- fields are numbered from 1
unfoldable pub field : Fields → ℕ → List ℕ
field fields n = slice_index_or ([] ∷ fields) n []

-- the first field, numbered from n, that its test refuses, that is missing, or that is one too many
unfoldable pub first_bad : ℕ → List (List ℕ → Bool) → Fields → Option ℕ
first_bad n [] [] = None
first_bad n [] (field ∷ fields) = Some n
first_bad n (test ∷ tests) [] = Some n
first_bad n (test ∷ tests) (field ∷ fields) = if test field then first_bad (n + 1) tests fields else Some n

-- A column of a line, with the test that its field passes: a value, or a text that is copied into memory of its own. Copied are the fields
-- that pass the second test.
pub data Column : Type 0 where
  Value : (List ℕ → Bool) → Column
  Copied : (List ℕ → Bool) → (List ℕ → Bool) → Column

abbrev pub value : {T : Type 0} → FieldKind T → Column
value kind = Value kind.accepts

abbrev pub copied : {T : Type 0} → FieldKind T → Column
copied kind = Copied kind.accepts kind.accepts

abbrev pub copied_if_any : {T : Type 0} → FieldKind T → Column
copied_if_any kind = Copied (optional kind).accepts kind.accepts

-- the test that its field passes
abbrev pub test_of : Column → List ℕ → Bool
test_of (Value accepts) = accepts
test_of (Copied accepts copies) = accepts

-- A row of the table of lines: a word, the columns of the fields behind it, and what fields are that pass their tests.
pub record Form (T : Type 0) : Type 0 where
  pub word : List ℕ
  pub columns : List Column
  pub value : Fields → T

abbrev pub tests_of : {T : Type 0} → Form T → List (List ℕ → Bool)
tests_of form = map test_of form.columns

-- ---- commands: their word is field 1

abbrev pub branch_form : Form Command
branch_form = record {
  word = codes "branch";
  columns = value id ∷ copied text60 ∷ copied text60 ∷ copied text60 ∷ [];
  value = λ f. command.Branch (record {
    number = id.value (field f 2);
    street = text60.value (field f 3);
    city = text60.value (field f 4);
    postcode = text60.value (field f 5);
  });
}

abbrev pub fee_form : Form Command
fee_form = record {
  word = codes "fee";
  columns = value id ∷ value fee ∷ [];
  value = λ f. command.Fee (record { branch = id.value (field f 2); fee = fee.value (field f 3) });
}

abbrev pub staff_form : Form Command
staff_form = record {
  word = codes "staff";
  columns = value id ∷ copied text60 ∷ value position ∷ value id ∷ [];
  value = λ f. command.Staff (record {
    number = id.value (field f 2);
    name = text60.value (field f 3);
    position = position.value (field f 4);
    branch = id.value (field f 5);
  });
}

abbrev pub owner_form : Form Command
owner_form = record {
  word = codes "owner";
  columns = value id ∷ copied text60 ∷ copied text60 ∷ copied text60 ∷ [];
  value = λ f. command.Owner (record {
    number = id.value (field f 2);
    name = text60.value (field f 3);
    address = text60.value (field f 4);
    telephone = text60.value (field f 5);
  });
}

abbrev pub property_form : Form Command
property_form = record {
  word = codes "property";
  columns = value id ∷ copied text60 ∷ copied text60 ∷ copied text60 ∷ value property_type ∷ value rooms ∷ value rent ∷ value id
      ∷ value (optional id) ∷ value id ∷ [];
  value = λ f. command.Property (record {
    number = id.value (field f 2);
    street = text60.value (field f 3);
    city = text60.value (field f 4);
    postcode = text60.value (field f 5);
    property_type = property_type.value (field f 6);
    rooms = rooms.value (field f 7);
    rent = rent.value (field f 8);
    owner = id.value (field f 9);
    staff = (optional id).value (field f 10);
    branch = id.value (field f 11);
  });
}

abbrev pub assign_form : Form Command
assign_form = record {
  word = codes "assign";
  columns = value id ∷ value (optional id) ∷ [];
  value = λ f. command.Assign (record { property = id.value (field f 2); staff = (optional id).value (field f 3) });
}

abbrev pub rent_form : Form Command
rent_form = record {
  word = codes "rent";
  columns = value id ∷ value rent ∷ [];
  value = λ f. command.Rent (record { property = id.value (field f 2); rent = rent.value (field f 3) });
}

abbrev pub client_form : Form Command
client_form = record {
  word = codes "client";
  columns = value id ∷ copied text60 ∷ copied text60 ∷ value property_type ∷ value rent ∷ [];
  value = λ f. command.Client (record {
    number = id.value (field f 2);
    name = text60.value (field f 3);
    telephone = text60.value (field f 4);
    preferred_type = property_type.value (field f 5);
    greatest_rent = rent.value (field f 6);
  });
}

abbrev pub register_form : Form Command
register_form = record {
  word = codes "register";
  columns = value id ∷ value id ∷ value id ∷ value day ∷ [];
  value = λ f. command.Register (record {
    client = id.value (field f 2);
    branch = id.value (field f 3);
    staff = id.value (field f 4);
    day = day.value (field f 5);
  });
}

abbrev pub viewing_form : Form Command
viewing_form = record {
  word = codes "viewing";
  columns = value id ∷ value id ∷ value day ∷ copied_if_any comment ∷ [];
  value = λ f. command.Viewing (record {
    client = id.value (field f 2);
    property = id.value (field f 3);
    day = day.value (field f 4);
    comment = (optional comment).value (field f 5);
  });
}

abbrev pub comment_form : Form Command
comment_form = record {
  word = codes "comment";
  columns = value id ∷ value id ∷ copied comment ∷ [];
  value = λ f. command.Comment (record { client = id.value (field f 2); property = id.value (field f 3); comment = comment.value (field f 4) });
}

abbrev pub inspection_form : Form Command
inspection_form = record {
  word = codes "inspection";
  columns = value id ∷ value day ∷ value id ∷ copied comment ∷ [];
  value = λ f. command.Inspection (record {
    property = id.value (field f 2);
    day = day.value (field f 3);
    staff = id.value (field f 4);
    comment = comment.value (field f 5);
  });
}

abbrev pub lease_form : Form Command
lease_form = record {
  word = codes "lease";
  columns = value lease_no ∷ value id ∷ value id ∷ value day ∷ value months ∷ value method ∷ [];
  value = λ f. command.Lease (record {
    number = lease_no.value (field f 2);
    client = id.value (field f 3);
    property = id.value (field f 4);
    start = day.value (field f 5);
    months = months.value (field f 6);
    method = method.value (field f 7);
  });
}

abbrev pub end_form : Form Command
end_form = record {
  word = codes "end";
  columns = value lease_no ∷ value months ∷ [];
  value = λ f. command.End (record { lease = lease_no.value (field f 2); months = months.value (field f 3) });
}

abbrev pub receipt_form : Form Command
receipt_form = record {
  word = codes "receipt";
  columns = value key ∷ value lease_no ∷ value receipt_kind ∷ value amount ∷ value day ∷ [];
  value = λ f. command.Receipt (record {
    key = key.value (field f 2);
    payment = record {
      lease = lease_no.value (field f 3);
      kind = receipt_kind.value (field f 4);
      amount = amount.value (field f 5);
      day = day.value (field f 6);
    };
  });
}

abbrev pub run_form : Form Command
run_form = record {
  word = codes "run";
  columns = value key ∷ value month ∷ [];
  value = λ f. command.Run (record { key = key.value (field f 2); month = month.value (field f 3) });
}

abbrev pub open_form : Form Command
open_form = record {
  word = codes "open";
  columns = value key ∷ value month ∷ [];
  value = λ f. command.Open (record { key = key.value (field f 2); month = month.value (field f 3) });
}

abbrev pub post_form : Form Command
post_form = record {
  word = codes "post";
  columns = value batch_count ∷ [];
  value = λ f. command.Post (batch_count.value (field f 2));
}

abbrev pub command_forms : List (Form Command)
command_forms = branch_form ∷ fee_form ∷ staff_form ∷ owner_form ∷ property_form ∷ assign_form ∷ rent_form ∷ client_form ∷ register_form ∷ viewing_form
    ∷ comment_form ∷ inspection_form ∷ lease_form ∷ end_form ∷ receipt_form ∷ run_form ∷ open_form ∷ post_form ∷ []

-- ---- questions: field 1 is `show`, and their word is field 2

abbrev pub branches_form : Form Question
branches_form = record { word = codes "branches"; columns = []; value = λ f. question.Branches }

abbrev pub vacant_form : Form Question
vacant_form = record { word = codes "vacant"; columns = value day ∷ []; value = λ f. question.Vacant (day.value (field f 3)) }

abbrev pub matching_form : Form Question
matching_form = record {
  word = codes "matching";
  columns = value id ∷ value day ∷ [];
  value = λ f. question.Matching (record { client = id.value (field f 3); day = day.value (field f 4) });
}

abbrev pub statement_form : Form Question
statement_form = record { word = codes "statement"; columns = value lease_no ∷ []; value = λ f. question.Statement (lease_no.value (field f 3)) }

abbrev pub arrears_form : Form Question
arrears_form = record { word = codes "arrears"; columns = value id ∷ []; value = λ f. question.Arrears (id.value (field f 3)) }

abbrev pub shown_run_form : Form Question
shown_run_form = record { word = codes "run"; columns = value month ∷ []; value = λ f. question.Run (month.value (field f 3)) }

abbrev pub owner_month_form : Form Question
owner_month_form = record {
  word = codes "owner";
  columns = value id ∷ value month ∷ [];
  value = λ f. question.Owner (record { owner = id.value (field f 3); month = month.value (field f 4) });
}

abbrev pub question_forms : List (Form Question)
question_forms = branches_form ∷ vacant_form ∷ matching_form ∷ statement_form ∷ arrears_form ∷ shown_run_form ∷ owner_month_form ∷ []

-- ---- which request the fields are

-- the value, where no field is bad
abbrev pub judged : {T : Type 0} → Option ℕ → T → Result T Refusal
judged None value = Ok value
judged (Some n) value = Err (BadLine n)

-- the form that has this word
abbrev pub form_of : {T : Type 0} → List (Form T) → List ℕ → Option (Form T)
form_of [] word = None
form_of (form ∷ forms) word = if bytes_eq word form.word then Some form else form_of forms word

-- what the fields are whose word is field n, by the form of that word; or their first bad field
abbrev pub value_by : {T : Type 0} → Option (Form T) → ℕ → Fields → Result T Refusal
value_by None n fields = Err (BadLine n)
value_by (Some form) n fields = judged (first_bad (n + 1) (tests_of form) (drop n fields)) (form.value fields)

unfoldable pub value_among : {T : Type 0} → List (Form T) → ℕ → Fields → Result T Refusal
value_among forms n fields = value_by (form_of forms (field fields n)) n fields

abbrev pub a_command : Result Command Refusal → Result Request Refusal
a_command (Ok it) = Ok (request.Command it)
a_command (Err refusal) = Err refusal

abbrev pub a_question : Result Question Refusal → Result Request Refusal
a_question (Ok it) = Ok (request.Question it)
a_question (Err refusal) = Err refusal

-- the request that the fields are, or their first bad field
unfoldable pub request_of : Fields → Result Request Refusal
request_of fields =
    if bytes_eq (field fields 1) (codes "show") then a_question (value_among question_forms 2 fields)
    else a_command (value_among command_forms 1 fields)

-- the line asks with some words
abbrev pub IsShown : Fields → Type 0
IsShown fields = (words : Fields) × (fields ≡ codes "show" ∷ words)
