-- The token that a borrowed one is.
use Rattle.smt_meaning.specs.declared.tokens.TokenView.{TokenView}
use Rattle.smt_meaning.specs.declared.tokens.TokenView.TheVariants.{Enter as EnterSeen, Leave as LeaveSeen, Numeral as NumeralSeen, Decimal as DecimalSeen, Hex as HexSeen, Binary as BinarySeen, Text as TextSeen, Symbol as SymbolSeen, Reserved as ReservedSeen, Keyword as KeywordSeen}
use Rattle.smt_meaning.specs.declared.tokens.Token.{Token}
use Rattle.smt_meaning.specs.declared.tokens.Token.TheVariants.{Enter, Leave, Numeral, Decimal, Hex, Binary, Text, Symbol, Reserved, Keyword}

abbrev pub seen : TokenView → Token
seen EnterSeen = Enter
seen LeaveSeen = Leave
seen (NumeralSeen b) = Numeral b.now
seen (DecimalSeen b) = Decimal b.now
seen (HexSeen b) = Hex b.now
seen (BinarySeen b) = Binary b.now
seen (TextSeen b) = Text b.now
seen (SymbolSeen b) = Symbol b.now
seen (ReservedSeen w) = Reserved w
seen (KeywordSeen b) = Keyword b.now
