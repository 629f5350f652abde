mod Former
