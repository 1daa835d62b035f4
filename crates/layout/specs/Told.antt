-- What is said of each refusal.
use Rattle.std.specs.Prelude.{List, ℕ, codes}
use Rattle.layout.specs.declared.refusals.Refusal.{Refusal}
use Rattle.layout.specs.declared.refusals.Refusal.TheVariants.{BadSizes, TooShort, TooWide, NoObject, NoSlot, BadWord, NoRoot, BadControl, Damaged, IsFree, NamesNone, Full, LossFull, ImageCut, BadImage, UnknownKind, SinksFull, BadTuning}

-- the words of each refusal
abbrev pub told : Refusal → List ℕ
told BadSizes = codes "sizes out of range"
told TooShort = codes "a buffer is too short"
told TooWide = codes "width above 8"
told NoObject = codes "no such object"
told NoSlot = codes "no such slot"
told BadWord = codes "illegal word"
told NoRoot = codes "no such root"
told BadControl = codes "control record out of order"
told Damaged = codes "the heap is damaged"
told IsFree = codes "the object is free"
told NamesNone = codes "the word names a free object"
told Full = codes "no object is free"
told LossFull = codes "the write loss is too large"
told ImageCut = codes "the image is cut"
told BadImage = codes "the image is not a heap"
told UnknownKind = codes "a chunk of unknown kind"
told SinksFull = codes "64 sinks are listed"
told BadTuning = codes "an analysis number is out of range"
