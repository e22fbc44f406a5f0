-- The words for files.
use Rattle.std.specs.Prelude.{ℕ, List, codes}
use Rattle.refusal_texts.specs.declared.files.Role.{Role}
use Rattle.refusal_texts.specs.declared.files.Role.TheVariants.{Instance, Report, Journal, Plan, Folder, Table, TableFolder}

-- what a file is called
abbrev pub role_text : Role → List ℕ
role_text Instance = codes "the instance"
role_text Report = codes "the report"
role_text Journal = codes "the journal"
role_text Plan = codes "the plan's file"
role_text Folder = codes "the plan's folder"
role_text Table = codes "the table"
role_text TableFolder = codes "the folder of the tables"
