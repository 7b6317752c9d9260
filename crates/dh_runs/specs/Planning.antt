-- What a plan is made of.
use Rattle.dh_model.specs.Books.{Books, State}

-- with the branches of other books, and their fees
abbrev pub with_branches : Books → State → State
with_branches others s = record s { books = record s.books { branches = others.branches; branch_fees = others.branch_fees } }
