mod ChainLists
mod DiaryLists
