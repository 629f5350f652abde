-- Documents by their numbers.
use Rattle.std.specs.Prelude.{ℕ, ◌-◌, List, ◌++◌, codes, length, replicate}
use Rattle.std.specs.Fmt.{decimal}

-- the number in decimal, with zeros in front where it has fewer than seven digits
abbrev pub seven_digits : ℕ → List ℕ
seven_digits number = replicate (7 - length (decimal number)) 48 ++ decimal number

-- the canonical text of a document to order, of the carrier OCNL, whose reference has this number
unfoldable pub document_text : ℕ → List ℕ
document_text number =
    codes "{\"carrierCode\":\"OCNL\",\"carrierCodeListProvider\":\"NMFTA\",\"isToOrder\":true,"
    ++ codes "\"transportDocumentReference\":\"OCNL" ++ seven_digits number
    ++ codes "\",\"transportDocumentTypeCode\":\"BOL\"}"
